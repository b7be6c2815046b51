-- How many subtries a digest needs.
use Rattle.std.proofs.Common.{◌≡◌, ◌≢◌, ℕ, ◌+◌, ◌-◌, ◌*◌, ◌<◌, ◌≤◌, List, [], ◌∷◌, length, ◌⊎◌, zero, suc, inl, inr, refl, sym, ap, ◌∙◌, subst, arith, cond, Bool, true, false, nat_eq}
use Rattle.std.specs.Cmp.Lexicographic.{pointwise, bytes_decides}
use Rattle.std.proofs.lemmas.List.Sums.{sum_by-cons}
use Rattle.std.proofs.lemmas.Bool.{cases_eq, cases_Bool, eq-eqb, ne_eqb}
use Rattle.cas_model.specs.declared.digest.Digest.{Digest}
use Rattle.cas_model.specs.declared.place.Space.{Space}
use Rattle.cas_model.specs.State.{Member}
use Rattle.cas_model.specs.Trie.{path, index_of, sharing, new_subtries}
use Rattle.region_core.specs.Heap.{Block, Table, Record, Claimed, Tries}
use Rattle.region_core.specs.Change.{Placed}
use Rattle.region_core.specs.Inserts.{IsUnder, TwoUnder, OneUnder, IsTight, IsTightFor, HasJust, AreDistinct, SameData}
use Rattle.region_core.proofs.Finding.{on_the_way, unique_record, length-path}
use Rattle.region_core.proofs.Heap.{stay, came}

-- the parts of a path
path_head : (d : List ℕ) (j : ℕ) (above : List ℕ) → path d (suc (length above)) ≡ j ∷ above → (index_of d (length above) ≡ j) × (path d (length above) ≡ above)
path_head d j above h = (cc, cc)

-- at a table, a record under the slot's indexes is named there or below
pub under_slot : (heap : ℕ → Block) (memory : ℕ → ℕ) (s : Space) (j : ℕ) (above : List ℕ) (u p : ℕ) → Tries heap memory → heap u ≡ Table s above → IsUnder heap s (j ∷ above) p → (memory (u + j) ≡ 4 * p + 1) ⊎ ((t : ℕ) × (memory (u + j) ≡ 4 * t + 2))
under_slot heap memory s j above u p tries here x =
    let parts = path_head x.digest j above x.begins in
    let at : u + index_of x.digest (length above) ≡ u + j = ap (λ i. u + i) parts.0 in
    elim (on_the_way heap memory s x.digest x.cell p u (length above) tries x.here (here ∙ ap (λ a. Table s a) (sym parts.1))) [
      | inl e ↦ inl (ap memory (sym at) ∙ e)
      | inr e ↦ inr (e.0, ap memory (sym at) ∙ e.1)
    ]

-- an empty slot: nothing is under it
pub none_under : (heap : ℕ → Block) (memory : ℕ → ℕ) (s : Space) (j : ℕ) (above : List ℕ) (u p : ℕ) → Tries heap memory → heap u ≡ Table s above → memory (u + j) ≡ 0 → IsUnder heap s (j ∷ above) p → ⊥
none_under heap memory s j above u p tries here word x =
    elim (under_slot heap memory s j above u p tries here x) [ inl e ↦ omega (arith, e) | inr e ↦ omega (arith, e.1) ]

-- a slot with a record: just that one is under it
pub one_under : (heap : ℕ → Block) (memory : ℕ → ℕ) (s : Space) (j : ℕ) (above : List ℕ) (u r p : ℕ) → Tries heap memory → heap u ≡ Table s above → memory (u + j) ≡ 4 * r + 1 → IsUnder heap s (j ∷ above) p → p ≡ r
one_under heap memory s j above u r p tries here word x =
    elim (under_slot heap memory s j above u p tries here x) [ inl e ↦ omega (arith, e) | inr e ↦ absurd (omega (arith, e.1)) ]

-- records stay, with another cell at most
abbrev pub RecordsStay : (ℕ → Block) → (ℕ → Block) → Type 0
RecordsStay heap heap' = (p : ℕ) (s : Space) (d : List ℕ) (c : ℕ) → heap p ≡ Record s d c → (n : ℕ) × (heap' p ≡ Record s d n)

under_stays : (heap heap' : ℕ → Block) (s : Space) (π : List ℕ) (p : ℕ) → RecordsStay heap heap' → IsUnder heap s π p → IsUnder heap' s π p
under_stays heap heap' s π p on x = let z = on p s x.digest x.cell x.here in record { digest = x.digest; cell = z.0; here = z.1; begins = x.begins }

two_stay : (heap heap' : ℕ → Block) (s : Space) (π : List ℕ) → RecordsStay heap heap' → TwoUnder heap s π → TwoUnder heap' s π
two_stay heap heap' s π on x = record { one = x.one; two = x.two; other = x.other; under_one = under_stays heap heap' s π x.one on x.under_one; under_two = under_stays heap heap' s π x.two on x.under_two }

-- no table comes, and no record goes
pub tight_on : (heap heap' : ℕ → Block) → RecordsStay heap heap' → ((p : ℕ) (s : Space) (π : List ℕ) → heap' p ≡ Table s π → heap p ≡ Table s π) → IsTight heap → IsTight heap'
tight_on heap heap' on back tight = λ t j s above h. two_stay heap heap' s (j ∷ above) on (tight t j s above (back t s (j ∷ above) h))

pub tight_first : (heap heap' : ℕ → Block) (s : Space) (d : List ℕ) → RecordsStay heap heap' → ((p : ℕ) (r : Space) (π : List ℕ) → heap' p ≡ Table r π → heap p ≡ Table r π) → IsTight heap → IsTightFor heap' s d 0
tight_first heap heap' s d on back tight = λ t j r above h. inl (two_stay heap heap' r (j ∷ above) on (tight t j r above (back t r (j ∷ above) h)))

one_stays : (heap heap' : ℕ → Block) (s : Space) (d : List ℕ) (level next : ℕ) (r : Space) (π : List ℕ) → RecordsStay heap heap' → level ≤ next → OneUnder heap s d level r π → OneUnder heap' s d next r π
one_stays heap heap' s d level next r π on more x = record { place = x.place; same = x.same; under = under_stays heap heap' s π x.place on x.under; begins = x.begins; high = omega (arith, x.high) }

pub tight_down : (heap : ℕ → Block) (s : Space) (d : List ℕ) (level : ℕ) → IsTightFor heap s d level → IsTightFor heap s d (suc level)
tight_down heap s d level tight = λ t j r above h. elim (tight t j r above h) [
  | inl x ↦ inl x
  | inr x ↦ inr (one_stays heap heap s d level (suc level) r (j ∷ above) (λ p y e c z. (c, z)) (omega arith) x)
]

-- the sink keeps it: the found record and the digest are under the new table
pub tight_sink : (heap heap' : ℕ → Block) (s : Space) (d ws : List ℕ) (j r q level : ℕ) (above : List ℕ) → IsTightFor heap s d level → heap q ≡ Claimed ws → Placed heap heap' q (Table s (j ∷ above)) → IsUnder heap s (j ∷ above) r → path d (suc (length above)) ≡ j ∷ above → length above ≡ level → IsTightFor heap' s d (suc level)
tight_sink heap heap' s d ws j r q level above tight mine placed under leads long = λ t i y π h.
    let on : RecordsStay heap heap' = λ p z e c x. (c, stay heap heap' q p (Claimed ws) (Table s (j ∷ above)) (Record z e c) placed mine x (λ z. cc)) in
    elim (cases_eq t q) [
      | inl is ↦
          let same : Table y (i ∷ π) ≡ Table s (j ∷ above) = sym h ∙ ap heap' is ∙ placed.now in
          let path_is : i ∷ π ≡ j ∷ above = cc in
          let y_is : y ≡ s = cc in
          inr record {
            place = r;
            same = y_is;
            under = subst (λ z. IsUnder heap' s z r) (sym path_is) (under_stays heap heap' s (j ∷ above) r on under);
            begins = subst (λ z. path d (length z) ≡ z) (sym path_is) leads;
            high = omega (arith, ap length path_is);
          }
      | inr not ↦ elim (tight t i y π (sym (placed.same t not) ∙ h)) [
        | inl x ↦ inl (two_stay heap heap' y (i ∷ π) on x)
        | inr x ↦ inr (one_stays heap heap' s d level (suc level) y (i ∷ π) on (omega arith) x)
      ]
    ]

-- once the digest's record is bound, two records are below each table
pub tight_bind : (heap heap' : ℕ → Block) (s : Space) (d ws : List ℕ) (q level : ℕ) → IsTightFor heap s d level → heap q ≡ Claimed ws → Placed heap heap' q (Record s d 0) → IsTight heap'
tight_bind heap heap' s d ws q level tight mine placed = λ t i y π h.
    let on : RecordsStay heap heap' = λ p z x c w. (c, stay heap heap' q p (Claimed ws) (Record s d 0) (Record z x c) placed mine w (λ z. cc)) in
    let stood : heap t ≡ Table y (i ∷ π) = came heap heap' q t (Record s d 0) (Table y (i ∷ π)) placed h (λ z. cc) in
    elim (tight t i y π stood) [
      | inl x ↦ two_stay heap heap' y (i ∷ π) on x
      | inr x ↦ record {
        one = x.place;
        two = q;
        other = (λ z. let clash : Record s x.under.digest x.under.cell ≡ Claimed ws = sym x.under.here ∙ ap heap z ∙ mine in cc);
        under_one = subst (λ z. IsUnder heap' z (i ∷ π) x.place) (sym x.same) (under_stays heap heap' s (i ∷ π) x.place on x.under);
        under_two = subst (λ z. IsUnder heap' z (i ∷ π) q) (sym x.same) record { digest = d; cell = 0; here = placed.now; begins = x.begins };
      }
    ]

-- ---- how many digests share the indexes

abbrev test : Digest → ℕ → Digest → Bool
test d n e = pointwise nat_eq (path e.bytes n) (path d.bytes n)

shares : (d e : Digest) (n : ℕ) → test d n e ≡ true → path e.bytes n ≡ path d.bytes n
shares d e n h = (bytes_decides (path e.bytes n) (path d.bytes n)).0 h

shares-back : (d e : Digest) (n : ℕ) → path e.bytes n ≡ path d.bytes n → test d n e ≡ true
shares-back d e n h = (bytes_decides (path e.bytes n) (path d.bytes n)).1 h

sharing-cons : (x : Digest) (ds : List Digest) (d : Digest) (n : ℕ) → sharing (x ∷ ds) d n ≡ cond (test d n x) 1 0 + sharing ds d n
sharing-cons x ds d n = sum_by-cons (λ e. cond (test d n e) 1 0) x ds

sharing-hit : (x : Digest) (ds : List Digest) (d : Digest) (n : ℕ) → test d n x ≡ true → sharing (x ∷ ds) d n ≡ 1 + sharing ds d n
sharing-hit x ds d n h = sharing-cons x ds d n ∙ ap (λ b. cond b 1 0 + sharing ds d n) h

sharing-miss : (x : Digest) (ds : List Digest) (d : Digest) (n : ℕ) → test d n x ≡ false → sharing (x ∷ ds) d n ≡ 0 + sharing ds d n
sharing-miss x ds d n h = sharing-cons x ds d n ∙ ap (λ b. cond b 1 0 + sharing ds d n) h

pub no_sharing : (ds : List Digest) (d : Digest) (n : ℕ) → ((e : Digest) → Member e ds → path e.bytes n ≡ path d.bytes n → ⊥) → sharing ds d n ≡ 0
no_sharing [] d n none = refl
no_sharing (e ∷ ds) d n none = elim (cases_Bool (test d n e)) [
  | inl hit ↦ absurd (none e (inl refl) (shares d e n hit))
  | inr miss ↦ sharing-miss e ds d n miss ∙ ap (λ k. 0 + k) (no_sharing ds d n (λ x m. none x (inr m)))
]

pub one_sharing : (ds : List Digest) (d e : Digest) (n : ℕ) → AreDistinct ds → Member e ds → path e.bytes n ≡ path d.bytes n → ((x : Digest) → Member x ds → path x.bytes n ≡ path d.bytes n → x ≡ e) → sharing ds d n ≡ 1
one_sharing [] d e n apart m same only = absurd m
one_sharing (x ∷ ds) d e n apart m same only = elim (cases_Bool (test d n x)) [
  | inl hit ↦
      let x_is : x ≡ e = only x (inl refl) (shares d x n hit) in
      let rest : sharing ds d n ≡ 0 = no_sharing ds d n (λ y my sy. apart.0 (subst (λ z. Member z ds) (only y (inr my) sy ∙ sym x_is) my)) in
      sharing-hit x ds d n hit ∙ ap (λ k. 1 + k) rest
  | inr miss ↦ elim m [
    | inl is ↦ absurd (let bad : test d n x ≡ true = shares-back d x n (ap (λ (z : Digest). path z.bytes n) is ∙ same) in cc)
    | inr there ↦ sharing-miss x ds d n miss ∙ ap (λ k. 0 + k) (one_sharing ds d e n apart.1 there same (λ y my. only y (inr my)))
  ]
]

some_sharing : (ds : List Digest) (d e : Digest) (n : ℕ) → Member e ds → path e.bytes n ≡ path d.bytes n → 1 ≤ sharing ds d n
some_sharing [] d e n m same = absurd m
some_sharing (x ∷ ds) d e n m same = elim (cases_Bool (test d n x)) [
  | inl hit ↦ let h : sharing (x ∷ ds) d n ≡ 1 + sharing ds d n = sharing-hit x ds d n hit in omega (arith, h)
  | inr miss ↦ elim m [
    | inl is ↦ absurd (let bad : test d n x ≡ true = shares-back d x n (ap (λ (z : Digest). path z.bytes n) is ∙ same) in cc)
    | inr there ↦ let h : sharing (x ∷ ds) d n ≡ 0 + sharing ds d n = sharing-miss x ds d n miss in omega (arith, h, some_sharing ds d e n there same)
  ]
]

pub two_sharing : (ds : List Digest) (d e f : Digest) (n : ℕ) → Member e ds → Member f ds → e ≢ f → path e.bytes n ≡ path d.bytes n → path f.bytes n ≡ path d.bytes n → 2 ≤ sharing ds d n
two_sharing [] d e f n me mf other se sf = absurd me
two_sharing (x ∷ ds) d e f n me mf other se sf = elim (cases_Bool (test d n x)) [
  | inl hit ↦
      let h : sharing (x ∷ ds) d n ≡ 1 + sharing ds d n = sharing-hit x ds d n hit in
      elim me [
        | inl e_is ↦ elim mf [
          | inl f_is ↦ absurd (other (sym e_is ∙ f_is))
          | inr mf' ↦ omega (arith, h, some_sharing ds d f n mf' sf)
        ]
        | inr me' ↦ omega (arith, h, some_sharing ds d e n me' se)
      ]
  | inr miss ↦
      let h : sharing (x ∷ ds) d n ≡ 0 + sharing ds d n = sharing-miss x ds d n miss in
      elim me [
        | inl is ↦ absurd (let bad : test d n x ≡ true = shares-back d x n (ap (λ (z : Digest). path z.bytes n) is ∙ se) in cc)
        | inr me' ↦ elim mf [
          | inl is ↦ absurd (let bad : test d n x ≡ true = shares-back d x n (ap (λ (z : Digest). path z.bytes n) is ∙ sf) in cc)
          | inr mf' ↦ omega (arith, h, two_sharing ds d e f n me' mf' other se sf)
        ]
      ]
]

pub subtries_same : (ds : List Digest) (d : Digest) (n : ℕ) → sharing ds d (suc n) ≢ 1 → new_subtries ds d (suc n) ≡ new_subtries ds d n
subtries_same ds d n h = ap (λ b. cond b 1 0 + new_subtries ds d n) (ne_eqb (sharing ds d (suc n)) 1 h) ∙ omega arith

pub subtries_more : (ds : List Digest) (d : Digest) (n : ℕ) → sharing ds d (suc n) ≡ 1 → new_subtries ds d (suc n) ≡ suc (new_subtries ds d n)
subtries_more ds d n h = ap (λ b. cond b 1 0 + new_subtries ds d n) (eq-eqb (sharing ds d (suc n)) 1 h) ∙ omega arith

-- no digest shares the indexes from a level on
pub subtries_end : (ds : List Digest) (d : Digest) (n k : ℕ) → ((m : ℕ) → n < m → sharing ds d m ≡ 0) → new_subtries ds d (n + k) ≡ new_subtries ds d n
subtries_end ds d n zero none = ap (new_subtries ds d) (omega arith)
subtries_end ds d n (suc k) none =
    let next : n + suc k ≡ suc (n + k) = omega arith in
    ap (new_subtries ds d) next ∙ subtries_same ds d (n + k) (λ e. omega (arith, none (suc (n + k)) (omega arith))) ∙ subtries_end ds d n k none

pub subtries_least : (ds : List Digest) (d : Digest) (n k : ℕ) → new_subtries ds d n ≤ new_subtries ds d (n + k)
subtries_least ds d n zero = omega (arith, ap (new_subtries ds d) (let e : n + 0 ≡ n = omega arith in e))
subtries_least ds d n (suc k) =
    let next : n + suc k ≡ suc (n + k) = omega arith in
    elim (cases_eq (sharing ds d (suc (n + k))) 1) [
      | inl one ↦ omega (arith, ap (new_subtries ds d) next, subtries_more ds d (n + k) one, subtries_least ds d n k)
      | inr other ↦ omega (arith, ap (new_subtries ds d) next, subtries_same ds d (n + k) other, subtries_least ds d n k)
    ]

-- shorter paths agree where longer ones do
pub path_short : (d e : List ℕ) (n k : ℕ) → path d (n + k) ≡ path e (n + k) → path d n ≡ path e n
path_short d e n zero h = let z : n ≡ n + 0 = omega arith in ap (path d) z ∙ h ∙ ap (path e) (sym z)
path_short d e n (suc k) h =
    let z : suc (n + k) ≡ n + suc k = omega arith in
    let both : path d (suc (n + k)) ≡ path e (suc (n + k)) = ap (path d) z ∙ h ∙ ap (path e) (sym z) in
    let tail : path d (n + k) ≡ path e (n + k) = cc in
    path_short d e n k tail

-- ---- what a slot on the way of a digest says of the digests that share its indexes

module _ (heap after : ℕ → Block) (memory : ℕ → ℕ) (known : List Digest) (s : Space) (d : Digest) (level u : ℕ)
    (just : HasJust heap s known) (same : SameData heap after) (tries : Tries after memory) (here : after u ≡ Table s (path d.bytes level)) where
  known_under : (e : Digest) (n : ℕ) → Member e known → path e.bytes (suc level) ≡ path d.bytes (suc level) → (p : ℕ) × (c : ℕ) × (after p ≡ Record s e.bytes c) × IsUnder after s (path d.bytes (suc level)) p
  known_under e n m shared =
      let x = just.on e m in
      let stands : after x.0 ≡ Record s e.bytes x.1.0 = (same x.0 (Record s e.bytes x.1.0) tt).0 x.1.1 in
      (x.0, x.1.0, stands, record { digest = e.bytes; cell = x.1.0; here = stands; begins = ap (path e.bytes) (length-path d.bytes (suc level)) ∙ shared })

  under_known : (p : ℕ) → (x : IsUnder after s (path d.bytes (suc level)) p) → Member (record { bytes = x.digest }) known × (path x.digest (suc level) ≡ path d.bytes (suc level))
  under_known p x = (
    just.back x.digest p x.cell ((same p (Record s x.digest x.cell) tt).1 x.here),
    ap (path x.digest) (sym (length-path d.bytes (suc level))) ∙ x.begins,
  )

  -- an empty slot
  pub empty_shares : memory (u + index_of d.bytes level) ≡ 0 → (m : ℕ) → level < m → sharing known d m ≡ 0
  empty_shares word m deep = no_sharing known d m (λ e me shared.
      let k : ℕ = m - suc level in
      let m_is : m ≡ suc level + k = omega arith in
      let short : path e.bytes (suc level) ≡ path d.bytes (suc level) = path_short e.bytes d.bytes (suc level) k (ap (path e.bytes) (sym m_is) ∙ shared ∙ ap (path d.bytes) m_is) in
      let x = known_under e 0 me short in
      none_under after memory s (index_of d.bytes level) (path d.bytes level) u x.0 tries here word x.3)

  -- a slot with a record
  pub record_shares : (r c : ℕ) (e : List ℕ) → memory (u + index_of d.bytes level) ≡ 4 * r + 1 → after r ≡ Record s e c → path e (suc level) ≡ path d.bytes (suc level) → sharing known d (suc level) ≡ 1
  record_shares r c e word stands leads =
      let m : Member (record { bytes = e }) known = just.back e r c ((same r (Record s e c) tt).1 stands) in
      one_sharing known d (record { bytes = e }) (suc level) just.distinct m leads (λ y my sy.
      let x = known_under y 0 my sy in
      let at : x.0 ≡ r = one_under after memory s (index_of d.bytes level) (path d.bytes level) u r x.0 tries here word x.3 in
      let labels : Record s y.bytes x.1 ≡ Record s e c = sym x.2 ∙ ap after at ∙ stands in
      let bytes : y.bytes ≡ e = cc in
      λ i. record { bytes = bytes i })

  -- a slot with a subtrie
  pub table_shares : IsTightFor after s d.bytes level → (t : ℕ) → after t ≡ Table s (path d.bytes (suc level)) → sharing known d (suc level) ≢ 1
  table_shares tight t stands e = elim (tight t (index_of d.bytes level) s (path d.bytes level) stands) [
    | inl two ↦
        let one_known = under_known two.one two.under_one in
        let two_known = under_known two.two two.under_two in
        let first : Digest = record { bytes = two.under_one.digest } in
        let second : Digest = record { bytes = two.under_two.digest } in
        let other : first ≢ second = λ z.
        two.other (unique_record after memory s two.under_one.digest two.under_one.cell two.under_two.cell two.one two.two tries two.under_one.here (two.under_two.here ∙ ap (λ y. Record s y two.under_two.cell) (sym (ap (λ (y : Digest). y.bytes) z)))) in
        omega (arith, two_sharing known d first second (suc level) one_known.0 two_known.0 other one_known.1 two_known.1)
    | inr one ↦ omega (arith, one.high, length-path d.bytes level)
  ]
