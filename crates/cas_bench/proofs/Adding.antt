-- One more object.
use Rattle.std.proofs.Common.{◌≡◌, ◌≤◌, ◌⊎◌, List, [], ◌∷◌, ◌++◌, length, Bool, true, false, not, cond, inl, inr, refl, sym, subst, ◌∙◌, arith}
use Rattle.cas_model.specs.declared.digest.Digest.{Digest}
use Rattle.cas_model.specs.declared.object.Object.{Object}
use Rattle.cas_model.specs.Contents.{AllMembers, AreStorable, object_digests}
use Rattle.cas_model.specs.Object.{object_digest}
use Rattle.cas_model.specs.State.{Member}
use Rattle.cas_bench.specs.Samples.{IsSample}

module _ (o : Object) (none : o.refs ≡ []) (short : length o.data ≤ 16777215) where
  -- an object without references that is new can be stored after those that can be stored
  storable_more : (known : List Digest) (os : List Object) → AreStorable known os → (Member (object_digest o) known → ⊥) → (Member (object_digest o) (object_digests os) → ⊥) → AreStorable known (os ++ o ∷ [])
  storable_more known [] storable fresh new = (subst (λ (rs : List Digest). length rs ≤ 65535) (sym none) (omega arith), short, subst (λ (rs : List Digest). AllMembers rs known) (sym none) tt, fresh, tt)
  storable_more known (x ∷ os) storable fresh new =
      (storable.0, storable.1, storable.2, storable.3, storable_more (object_digest x ∷ known) os storable.4 (λ m. elim m [ inl e ↦ new (inl e) | inr there ↦ fresh there ]) (λ m. new (inr m)))

  member_more : (os : List Object) (d : Digest) → Member d (object_digests (os ++ o ∷ [])) → (object_digest o ≡ d) ⊎ Member d (object_digests os)
  member_more [] d m = elim m [ inl e ↦ inl e | inr there ↦ absurd there ]
  member_more (x ∷ os) d m = elim m [ inl e ↦ inr (inl e) | inr there ↦ elim (member_more os d there) [ inl e ↦ inl e | inr in_os ↦ inr (inr in_os) ] ]

  pub sample_more :
      (has next : Digest → Bool) (os : List Object) → IsSample has os → has (object_digest o) ≡ false → next (object_digest o) ≡ true → ((d : Digest) → has d ≡ true → next d ≡ true)
      → IsSample next (os ++ o ∷ [])
  sample_more has next os sample fresh there on = record {
    storable = storable_more [] os sample.storable (λ m. m) (λ m. let clash : false ≡ true = sym fresh ∙ sample.known (object_digest o) m in cc);
    known = λ d m. elim (member_more os d m) [
      | inl e ↦ subst (λ (q : Digest). next q ≡ true) e there
      | inr in_os ↦ on d (sample.known d in_os)
    ];
  }

pub sample_same : (has next : Digest → Bool) (os : List Object) → IsSample has os → ((d : Digest) → has d ≡ true → next d ≡ true) → IsSample next os
sample_same has next os sample on = record { storable = sample.storable; known = λ d m. on d (sample.known d m) }

-- what a set has stays where one key is added
pub cond_on : (b c d : Bool) → d ≡ cond b true c → c ≡ true → d ≡ true
cond_on true c d is there = is
cond_on false c d is there = is ∙ there

pub not_there : (b x : Bool) → x ≡ not b → x ≡ true → b ≡ false
not_there true x is e = let clash : false ≡ true = sym is ∙ e in cc
not_there false x is e = refl
