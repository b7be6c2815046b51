-- References of an upstream's object lie below it.
use Rattle.std.proofs.Common.{◌≡◌, ℕ, zero, suc, ◌<◌, List, [], ◌∷◌, ◌⊎◌, inl, inr, Some, ap, sym, ◌∙◌, subst, arith, slice_get}
use Rattle.std.specs.FinMap as fin
use Rattle.cas_model.specs.declared.digest.Digest.{Digest}
use Rattle.cas_model.specs.declared.object.Object.{Object}
use Rattle.cas_model.specs.declared.place.Space.TheVariants.{Objects}
use Rattle.cas_model.specs.Content.{content_places}
use Rattle.cas_model.specs.Primary.{cell_at, cell_under, object_under, primary}
use Rattle.cas_model.specs.Start.{IsFilled, RefsBelow}
use Rattle.cas_model.specs.Tables.{Tables, cell_of, digest_at, digest_of_record, digests_at, object_of, place_of}
use Rattle.cas_model.proofs.Maps.{get-object}
use Rattle.cas_history.proofs.Sound.{IsSound}
use Rattle.cas_history.proofs.Under.{IsUnder, under-cases, under-none, under-some}

-- the cell of the record at a place that a content refers to
filled-cell : (s : Tables) (n : ℕ) → IsSound s → IsFilled s n → cell_under s Objects (digest_at s.bound n) ≡ cell_of s.filled n
filled-cell s n sound is =
    let r = is.object.found in
    let there = sound.tied.back n r is.object.is in
    let named : digest_at s.bound n ≡ r.digest = ap digest_of_record is.object.is in
    let at : place_of s.bound Objects r.digest ≡ Some r.place = (λ i. place_of s.bound (sym is.object.in_space i) r.digest) ∙ there.0 in
    ap (cell_under s Objects) named ∙ ap (cell_at s.filled) at ∙ ap (cell_of s.filled) there.1

lower-at : (s : Tables) (value : ℕ) (ns : List ℕ) (i : ℕ) (child : Digest) → IsSound s → RefsBelow s value ns → slice_get (digests_at s.bound ns) i ≡ Some child → cell_under s Objects child < value
lower-at s value [] i child sound refs at = cc
lower-at s value (n ∷ ns) zero child sound refs at =
    let e : digest_at s.bound n ≡ child = cc in
    let cell = filled-cell s n sound refs.0 in
    let less = refs.1 in
    subst (λ (d : Digest). cell_under s Objects d < value) e (omega (arith, cell, less))
lower-at s value (n ∷ ns) (suc i) child sound refs at = lower-at s value ns i child sound refs.2 at

pub refs-lower : (s : Tables) (d child : Digest) (o : Object) (i : ℕ) → IsSound s → fin.get (primary s).objects d ≡ Some o → slice_get o.refs i ≡ Some child → cell_under s Objects child < cell_under s Objects d
refs-lower s d child o i sound is at = step (under-cases s d sound) where
  shown : object_under s d ≡ Some o
  shown = sym (get-object s d) ∙ is

  step : (cell_under s Objects d ≡ 0) ⊎ IsUnder s d → cell_under s Objects child < cell_under s Objects d
  step (inl none) = absurd (cc (under-none s d none, shown))
  step (inr u) =
      let e : Some (object_of s.bound u.words) ≡ Some o = sym (under-some s d u) ∙ shown in
      let same : object_of s.bound u.words ≡ o = cc in
      let cell : cell_under s Objects d ≡ cell_of s.filled u.place.at = ap (cell_at s.filled) u.at in
      let lower = lower-at s (cell_of s.filled u.place.at) (content_places u.words) i child sound u.is.refs (ap (λ (x : Object). slice_get x.refs i) same ∙ at) in
      omega (arith, cell, lower)
