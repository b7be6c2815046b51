-- The bytes of references taken in one by one.
use Rattle.std.proofs.Common.{◌≡◌, ℕ, ◌+◌, ◌<◌, List, [], ◌∷◌, ◌++◌, length, get_or, take, refl, ap, sym, ◌∙◌, append_assoc, append-nil}
use Rattle.std.proofs.lemmas.List.{take_more}
use Rattle.cas_model.specs.declared.digest.Digest.{Digest}
use Rattle.cas_model.specs.Object.{ref_bytes}

pub ref_bytes-append : (xs ys : List Digest) → ref_bytes (xs ++ ys) ≡ ref_bytes xs ++ ref_bytes ys
ref_bytes-append [] ys = refl
ref_bytes-append (x ∷ xs) ys = ap (λ bs. x.bytes ++ bs) (ref_bytes-append xs ys) ∙ sym (append_assoc x.bytes (ref_bytes xs) (ref_bytes ys))

pub ref_bytes-more : (refs : List Digest) (i : ℕ) (d : Digest) → i < length refs → ref_bytes (take (i + 1) refs) ≡ ref_bytes (take i refs) ++ (get_or refs i d).bytes
ref_bytes-more refs i d h =
    ap ref_bytes (take_more refs i d h) ∙ ref_bytes-append (take i refs) (get_or refs i d ∷ []) ∙ ap (λ bs. ref_bytes (take i refs) ++ bs) (append-nil (get_or refs i d).bytes)
