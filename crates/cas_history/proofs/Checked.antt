-- What the checks of an event find.
use Rattle.std.proofs.Common.{◌≡◌, ℕ, zero, suc, ◌+◌, ◌*◌, ◌<◌, List, [], ◌∷◌, ◌++◌, Bool, false, inl, inr, IsSome, length, drop, drop-drop, get_or, refl, ap, sym, ◌∙◌, subst, arith, append_assoc, w64}
use Rattle.std.specs.Bool.{Decides}
use Rattle.std.specs.Int.{from_le_bytes}
use Rattle.cas_model.specs.Content.{words_from, data_word_at}
use Rattle.cas_model.specs.Start.{RefsBelow}
use Rattle.cas_model.specs.Tables.{Tables, Claimed, HasClaim, record_at, same_digest}
use Rattle.cas_model.specs.declared.call.Who.{Who}
use Rattle.cas_model.specs.declared.digest.Digest.{Digest}
use Rattle.cas_model.specs.declared.object.Object.{Object}
use Rattle.cas_model.proofs.Maps.{same-is, same-self}
use Rattle.cas_history.specs.Replays.{AreRecords}

-- a claim that is in the list
pub claim-there : (cs : List Claimed) (i : ℕ) (c d : Claimed) → i < length cs → c ≡ get_or cs i d → HasClaim cs c.who c.place c.length
claim-there [] i c d lt is = absurd (omega (arith, lt))
claim-there (x ∷ cs) zero c d lt is = inl (sym is)
claim-there (x ∷ cs) (suc i) c d lt is = inr (claim-there cs i c d (omega (arith, lt)) is)

-- what may be referred to has a record
pub refs-records : (s : Tables) (value : ℕ) (ns : List ℕ) → RefsBelow s value ns → AreRecords s ns
refs-records s value [] refs = tt
refs-records s value (n ∷ ns) refs = (subst IsSome (sym refs.0.object.is) refl, refs-records s value ns refs.2)

-- one of these records
pub record-there : (s : Tables) (ns : List ℕ) (i d : ℕ) → AreRecords s ns → i < length ns → IsSome (record_at s.bound (get_or ns i d))
record-there s [] i d are lt = absurd (omega (arith, lt))
record-there s (n ∷ ns) zero d are lt = are.0
record-there s (n ∷ ns) (suc i) d are lt = record-there s ns i d are.1 (omega (arith, lt))

pub claim-same : (cs : List Claimed) (v w : Who) (p q n m : ℕ) → v ≡ w → p ≡ q → n ≡ m → HasClaim cs v p n → HasClaim cs w q m
claim-same cs v w p q n m who place long there =
    subst (λ (x : Who). HasClaim cs x q m) who (subst (λ (x : ℕ). HasClaim cs v x m) place (subst (λ (x : ℕ). HasClaim cs v p x) long there))

pub digest-decides : (a b : Digest) → Decides (same_digest a b) (a ≡ b)
digest-decides a b = (same-is a b, λ e. ap (same_digest a) (sym e) ∙ same-self a)

-- objects are equal where their references and their data are
pub object-decides : (a b : Object) (xs ys : List Digest) (us vs : List ℕ) (r : Bool) → xs ≡ a.refs → ys ≡ b.refs → us ≡ a.data → vs ≡ b.data → xs ≡ ys → Decides r (us ≡ vs) → Decides r (a ≡ b)
object-decides a b xs ys us vs r ax by au bv refs bytes = (
  λ h.
      let one : a.refs ≡ b.refs = sym ax ∙ refs ∙ by in
      let two : a.data ≡ b.data = sym au ∙ bytes.0 h ∙ bv in
      λ i. record { refs = one i; «data» = two i },
  λ e. bytes.1 (au ∙ ap (λ (o : Object). o.data) e ∙ sym bv),
)

pub object-differs : (a b : Object) (xs ys : List Digest) (r : Bool) → xs ≡ a.refs → ys ≡ b.refs → Decides r (xs ≡ ys) → r ≡ false → Decides r (a ≡ b)
object-differs a b xs ys r ax by refs differ = (λ h. cc (h, differ), λ e. refs.1 (ax ∙ ap (λ (o : Object). o.refs) e ∙ sym by))

-- one more word of the data
words-next : (i : ℕ) (bytes : List ℕ) → words_from (suc i) bytes ≡ words_from i bytes ++ data_word_at bytes i ∷ []
words-next zero bytes = refl
words-next (suc i) bytes =
    let past : 8 + 8 * i ≡ 8 * suc i = omega arith in
    ap (λ ws. from_le_bytes w64 bytes ∷ ws) (words-next i (drop 8 bytes))
    ∙ ap (λ rest. from_le_bytes w64 bytes ∷ words_from i (drop 8 bytes) ++ from_le_bytes w64 rest ∷ []) (drop-drop (8 * i) 8 bytes ∙ ap (λ n. drop n bytes) past)

pub content-more : (h : ℕ) (places bytes words new : List ℕ) (i w : ℕ) → new ≡ words ++ w ∷ [] → words ≡ h ∷ places ++ words_from i bytes → w ≡ data_word_at bytes i
    → new ≡ h ∷ places ++ words_from (i + 1) bytes
content-more h places bytes words new i w is before word =
    let more : i + 1 ≡ suc i = omega arith in
    is ∙ ap (λ ws. ws ++ w ∷ []) before ∙ ap (λ x. h ∷ (places ++ words_from i bytes) ++ x ∷ []) word ∙ ap (λ ws. h ∷ ws) (append_assoc places (words_from i bytes) (data_word_at bytes i ∷ []))
    ∙ ap (λ ws. h ∷ places ++ ws) (sym (words-next i bytes)) ∙ ap (λ n. h ∷ places ++ words_from n bytes) (sym more)
