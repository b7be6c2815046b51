-- Contents that a test builds.
use Rattle.std.proofs.Common.{◌≡◌, ◌≢◌, ℕ, List, [], ◌∷◌, length, ◌≤◌, true, false, sym, ap, ◌∙◌, arith}
use Rattle.cas_model.specs.declared.contents.Pair.{Pair}
use Rattle.cas_model.specs.declared.digest.Digest.{Digest}
use Rattle.cas_model.specs.declared.object.Object.{Object}
use Rattle.cas_model.specs.Contents.{AreLawfulContents}
use Rattle.cas_model.specs.Object.{digest_of, object_digest}
use Rattle.cas_model.specs.Tables.{same_digest}
use Rattle.cas_model.proofs.Maps.{same-self}

other : (d e : Digest) → false ≡ same_digest d e → d ≢ e
other d e differ = λ same. absurd (let clash : false ≡ true = differ ∙ sym (ap (same_digest d) same) ∙ same-self d in cc)

-- two objects without references, and a key of the first
module _ (a b : Digest) (x y : List ℕ) (a_is : a ≡ digest_of [] x) (b_is : b ≡ digest_of [] y) (ab : false ≡ same_digest a b) where
  pub two_lawful : (objects : List Object) (pairs : List Pair) (one two : Object) (pair : Pair) → objects ≡ one ∷ two ∷ [] → pairs ≡ pair ∷ []
      → one.refs ≡ [] → two.refs ≡ [] → one.data ≡ x → two.data ≡ y → length x ≤ 16777215 → length y ≤ 16777215 → pair.value ≡ a → AreLawfulContents objects pairs
  two_lawful objects pairs one two pair objects_are pairs_are none none_too x_is y_is short short_too value =
      let one_is : object_digest one ≡ a = ap (λ rs. digest_of rs one.data) none ∙ ap (digest_of []) x_is ∙ sym a_is in
      let two_is : object_digest two ≡ b = ap (λ rs. digest_of rs two.data) none_too ∙ ap (digest_of []) y_is ∙ sym b_is in
      let one_other : a ≢ b = other a b ab in
      record { storable = grind arith; puttable = grind arith }
