-- Bytes that go on from one call to the next.
use Rattle.std.proofs.Common.{◌≡◌, ℕ, ◌+◌, ◌-◌, ◌≤◌, OnErr, List, ◌++◌, length, take, drop, Some, None, Ok, Err, ap, sym, ◌∙◌, subst, append_assoc, arith}
use Rattle.std.specs.declared.option.Option.{Option}
use Rattle.std.specs.declared.result.Result.{Result}
use Rattle.std.specs.Io.KnownBytes.{Appends, Keeps}
use Rattle.std.proofs.Math.Seq.{take-add}
use Rattle.std.proofs.lemmas.List.{take-append-drop}
use Rattle.std.proofs.lemmas.Grind.{common_steps}
use Rattle.cas_command.specs.Writing.{AppendsPart}

pub appends-then : (a b c : Option (List ℕ)) (xs ys : List ℕ) → Appends a b xs → Appends b c ys → Appends a c (xs ++ ys)
appends-then None b c xs ys ab bc = tt
appends-then (Some a) None c xs ys ab bc = absurd ab
appends-then (Some a) (Some b) None xs ys ab bc = absurd bc
appends-then (Some a) (Some b) (Some c) xs ys ab bc = bc ∙ ap (λ zs. zs ++ ys) ab ∙ append_assoc a xs ys

pub appends-keep : (a b c : Option (List ℕ)) (xs : List ℕ) → Appends a b xs → Keeps b c → Appends a c xs
appends-keep None b c xs ab bc = tt
appends-keep (Some a) None c xs ab bc = absurd ab
appends-keep (Some a) (Some b) None xs ab bc = absurd bc
appends-keep (Some a) (Some b) (Some c) xs ab bc = bc ∙ ab

pub part-written : (a b c : Option (List ℕ)) (bytes : List ℕ) (at : ℕ) → Appends a b (take at bytes) → Keeps b c → AppendsPart a c bytes
part-written a b c bytes at ab bc = record {
  part = take at bytes;
  rest = drop at bytes;
  is = sym (take-append-drop at bytes);
  appends = appends-keep a b c (take at bytes) ab bc;
}

pub more-written : (a b c : Option (List ℕ)) (bytes : List ℕ) (at n : ℕ) → Appends a b (take at bytes) → Appends b c (take n (drop at bytes)) → Appends a c (take (at + n) bytes)
more-written a b c bytes at n ab bc = subst (λ xs. Appends a c xs) (sym (take-add at n bytes)) (appends-then a b c (take at bytes) (take n (drop at bytes)) ab bc)

rest-of : (bytes : List ℕ) (at : ℕ) → take (length bytes - at) (drop at bytes) ≡ drop at bytes
rest-of bytes at = grind (arith, common_steps)

pub one-written : (a b c : Option (List ℕ)) (bytes : List ℕ) (at n : ℕ) → Appends a b (take at bytes) → Appends b c (take n (take (length bytes - at) (drop at bytes))) → Appends a c (take (at + n) bytes)
one-written a b c bytes at n ab bc = more-written a b c bytes at n ab (subst (λ xs. Appends b c (take n xs)) (rest-of bytes at) bc)

pub room-left : (bytes : List ℕ) (at n : ℕ) → at ≤ length bytes → n ≤ length (take (length bytes - at) (drop at bytes)) → at + n ≤ length bytes
room-left bytes at n le most = grind (arith, common_steps)

-- a fact that always holds, as one for an error
pub ends-on : {T E : Type 0} {P : Type 0} (r : Result T E) → P → OnErr r P
ends-on (Ok x) p = tt
ends-on (Err e) p = p
