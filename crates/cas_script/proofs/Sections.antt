-- Lists that are cut, and one element more.
use Rattle.std.proofs.Common.{◌≡◌, ◌∙◌, ap, Bool, true, false, cond, List, [], ◌∷◌, ◌++◌, refl, append-nil}
use Rattle.std.specs.List.{slice_split, onto_first, filter}
use Rattle.std.proofs.lemmas.List.Elements.{filter-append}

-- a list with an element at its end has one
nil_not_push : {X : Type 0} (xs : List X) (x : X) → [] ≡ xs ++ x ∷ [] → ⊥
nil_not_push [] x same = cc
nil_not_push (y ∷ xs) x same = cc

-- lists with one element more are one where both are
pub push_one : {X : Type 0} (xs ys : List X) (x y : X) → xs ++ x ∷ [] ≡ ys ++ y ∷ [] → (xs ≡ ys) × (x ≡ y)
push_one [] [] x y same = (refl, cc)
push_one [] (b ∷ ys) x y same =
    let rest : [] ≡ ys ++ y ∷ [] = cc in
    absurd (nil_not_push ys y rest)
push_one (a ∷ xs) [] x y same =
    let rest : [] ≡ xs ++ x ∷ [] = cc in
    absurd (nil_not_push xs x rest)
push_one (a ∷ xs) (b ∷ ys) x y same =
    let rest : xs ++ x ∷ [] ≡ ys ++ y ∷ [] = cc in
    let first : a ≡ b = cc in
    let more = push_one xs ys x y rest in
    let tails = more.0 in
    (cc, more.1)

-- a list that is not empty, by its end
pub record Ends {X : Type 0} (xs : List X) : Type 0 where
  pub front : List X
  pub last : X
  pub is : xs ≡ front ++ last ∷ []

pub ends : {X : Type 0} (x : X) (xs : List X) → Ends (x ∷ xs)
ends x [] = record { front = []; last = x; is = refl }
ends x (y ∷ xs) =
    let rest = ends y xs in
    record { front = x ∷ rest.front; last = rest.last; is = ap (λ list. x ∷ list) rest.is }

-- an element at the end of the last list
abbrev pub onto_last : {X : Type 0} → X → List (List X) → List (List X)
onto_last x [] = (x ∷ []) ∷ []
onto_last x (part ∷ []) = (part ++ x ∷ []) ∷ []
onto_last x (part ∷ next ∷ rest) = part ∷ onto_last x (next ∷ rest)

pub onto_last_push : {X : Type 0} (x : X) (front : List (List X)) (part : List X)
    → onto_last x (front ++ part ∷ []) ≡ front ++ (part ++ x ∷ []) ∷ []
onto_last_push x [] part = refl
onto_last_push x (first ∷ []) part = refl
onto_last_push x (first ∷ next ∷ rest) part = ap (λ list. first ∷ list) (onto_last_push x (next ∷ rest) part)

-- the parts of a list are one at least
pub record HasPart {X : Type 0} (parts : List (List X)) : Type 0 where
  pub first : List X
  pub rest : List (List X)
  pub is : parts ≡ first ∷ rest

has_part : {X : Type 0} (x : X) (parts : List (List X)) → HasPart (onto_first x parts)
has_part x [] = record { first = x ∷ []; rest = []; is = refl }
has_part x (part ∷ parts) = record { first = x ∷ part; rest = parts; is = refl }

either_part : {X : Type 0} (b : Bool) (xs ys : List (List X)) → HasPart xs → HasPart ys → HasPart (cond b xs ys)
either_part true xs ys one other = one
either_part false xs ys one other = other

pub part_of : {X : Type 0} (p : X → Bool) (xs : List X) → HasPart (slice_split p xs)
part_of p [] = record { first = []; rest = []; is = refl }
part_of p (x ∷ xs) = either_part (p x) _ _ (record { first = []; rest = slice_split p xs; is = refl }) (has_part x (slice_split p xs))

-- an element at the front of the first part changes nothing at the end
front_end : {X : Type 0} (x : X) (parts : List (List X)) (last : List X) → HasPart parts
    → onto_first x (parts ++ last ∷ []) ≡ onto_first x parts ++ last ∷ []
front_end x [] last some = absurd (let is : [] ≡ some.first ∷ some.rest = some.is in cc)
front_end x (part ∷ parts) last some = refl

front_last : {X : Type 0} (x y : X) (parts : List (List X)) → HasPart parts
    → onto_first x (onto_last y parts) ≡ onto_last y (onto_first x parts)
front_last x y [] some = absurd (let is : [] ≡ some.first ∷ some.rest = some.is in cc)
front_last x y (part ∷ []) some = refl
front_last x y (part ∷ next ∷ rest) some = refl

nil_last : {X : Type 0} (y : X) (parts : List (List X)) → HasPart parts → [] ∷ onto_last y parts ≡ onto_last y ([] ∷ parts)
nil_last y [] some = absurd (let is : [] ≡ some.first ∷ some.rest = some.is in cc)
nil_last y (part ∷ parts) some = refl

cut_cases : {X : Type 0} (b : Bool) (x : X) (whole now : List (List X)) (f : List (List X) → List (List X))
    → (b ≡ true → [] ∷ whole ≡ f ([] ∷ now)) → (b ≡ false → onto_first x whole ≡ f (onto_first x now))
    → cond b ([] ∷ whole) (onto_first x whole) ≡ f (cond b ([] ∷ now) (onto_first x now))
cut_cases true x whole now f yes_ no_ = yes_ refl
cut_cases false x whole now f yes_ no_ = no_ refl

-- an element at which the list is cut begins an empty part
pub split_push_cut : {X : Type 0} (p : X → Bool) (xs : List X) (y : X) → p y ≡ true
    → slice_split p (xs ++ y ∷ []) ≡ slice_split p xs ++ [] ∷ []
split_push_cut p [] y is = rw is refl
split_push_cut p (x ∷ xs) y is =
    let rest = split_push_cut p xs y is in
    cut_cases (p x) x (slice_split p (xs ++ y ∷ [])) (slice_split p xs) (λ parts. parts ++ [] ∷ [])
    (λ _. ap (λ parts. [] ∷ parts) rest)
    (λ _. ap (onto_first x) rest ∙ front_end x (slice_split p xs) [] (part_of p xs))

-- another one stands at the end of the last part
pub split_push : {X : Type 0} (p : X → Bool) (xs : List X) (y : X) → p y ≡ false
    → slice_split p (xs ++ y ∷ []) ≡ onto_last y (slice_split p xs)
split_push p [] y is = rw is refl
split_push p (x ∷ xs) y is =
    let rest = split_push p xs y is in
    cut_cases (p x) x (slice_split p (xs ++ y ∷ [])) (slice_split p xs) (onto_last y)
    (λ _. ap (λ parts. [] ∷ parts) rest ∙ nil_last y (slice_split p xs) (part_of p xs))
    (λ _. ap (onto_first x) rest ∙ front_last x y (slice_split p xs) (part_of p xs))

-- a filter of one element more
pub filter_push_no : {X : Type 0} (p : X → Bool) (xs : List X) (y : X) → p y ≡ false → filter p (xs ++ y ∷ []) ≡ filter p xs
filter_push_no p xs y is = filter-append p xs (y ∷ []) ∙ rw is (append-nil (filter p xs))

pub filter_push_yes : {X : Type 0} (p : X → Bool) (xs : List X) (y : X) → p y ≡ true → filter p (xs ++ y ∷ []) ≡ filter p xs ++ y ∷ []
filter_push_yes p xs y is = filter-append p xs (y ∷ []) ∙ rw is refl
