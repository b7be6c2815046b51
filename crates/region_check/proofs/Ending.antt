-- The first flaw of all, and words that have none.
use Rattle.std.proofs.Common.{◌≡◌, ℕ, ◌^◌, ◌<◌, ◌≤◌, List, get_or, Some, None, sym, ap, ◌∙◌, subst, arith}
use Rattle.std.specs.declared.option.Option.{Option}
use Rattle.cas_model.specs.declared.digest.Digest.{Digest}
use Rattle.cas_model.specs.Object.{object_digest}
use Rattle.cas_model.specs.Primary.{primary}
use Rattle.cas_model.specs.Trie.{IsDigest}
use Rattle.region_core.specs.Found.{tables_in}
use Rattle.region_core.specs.Leads.{digest_there, object_there, cell_there}
use Rattle.region_core.specs.Stands.{AreWords}
use Rattle.region_core.specs.Words.{HasWords, words_of}
use Rattle.region_core.proofs.Reading.{digest_held-there}
use Rattle.region_core.proofs.Starts.{lawful_stands}
use Rattle.frozen_store.specs.Seen.{HasState}
use Rattle.std.specs.Prelude.{MatchOption}
use Rattle.region_check.specs.declared.flaw.Flaw.{Flaw}
use Rattle.region_check.specs.declared.flaw.FlawKind.{FlawKind}
use Rattle.region_check.specs.declared.slot_flaws.Row.{Row}
use Rattle.region_check.specs.Flaws.{BadDigest, HasKind, turn, IsFirstFlaw}
use Rattle.region_check.specs.Passes.{RowOf, HasNoneBefore, HasHeader}
use Rattle.region_check.specs.Roles.{AreRoles}
use Rattle.region_check.specs.Shown.{IsLeastWhere, turn_of}
use Rattle.region_check.specs.Sums.{Fits}
use Rattle.region_check.proofs.Firsts.{first_flaw}
use Rattle.region_check.proofs.Lawful.{words_lawful}
use Rattle.region_check.proofs.Rows.{content_fits}

pub none_less : (words : List ℕ) (n m : ℕ) → n ≤ m → HasNoneBefore words m → HasNoneBefore words n
none_less words n m h none = record { none = λ k p below. none.none k p (omega (arith, below, h)) }

-- the content of a record whose digest differs can be hashed
pub differing_fits : (words : List ℕ) (place content : ℕ) → HasNoneBefore words 11 → ((kept found : Digest) × BadDigest words kept found place) → content ≡ cell_there words place → Fits words content
differing_fits words place content none (kept, found, (c, reached, kept_is, found_is, differ)) is = subst (Fits words) (reached.0.1 ∙ sym is) (content_fits words place c (none_less words 10 11 (omega arith) none) reached)

-- the two digests that differ are those that were read
pub differing :
    (words : List ℕ) (place content : ℕ) (own sum : Digest) → ((kept found : Digest) × BadDigest words kept found place) → content ≡ cell_there words place → IsDigest own.bytes → HasWords words place (words_of own.bytes)
    → sum ≡ object_digest (object_there words content) → BadDigest words own sum place
differing words place content own sum (kept, found, (c, reached, kept_is, found_is, differ)) is digest has sum_is =
    let there : content ≡ c = is ∙ sym reached.0.1 in
    let own_is : own ≡ digest_there words place = sym (digest_held-there words own.bytes place digest has) in
    let other : sum ≡ object_digest (object_there words c) = sum_is ∙ ap (λ k. object_digest (object_there words k)) there in
    (c, reached, own_is, other, λ e. differ (kept_is ∙ sym own_is ∙ e ∙ other ∙ sym found_is))

-- the least flaw of a row is the first
pub row_first : (words : List ℕ) (row : Row) (place : ℕ) (k : FlawKind) → HasNoneBefore words (turn_of row) → IsLeastWhere (RowOf words (turn_of row)) place → HasKind words k place → turn k ≡ turn_of row → IsFirstFlaw words (record { place = place; kind = k })
row_first words row place k none least here at =
    first_flaw words k place here (subst (HasNoneBefore words) (sym at) none) (λ p bad. least.least p (subst (λ n. RowOf words n p) at bad))

-- words without a flaw stand for a state
pub no_flaw_stands : (words roles : List ℕ) → HasHeader words → HasNoneBefore words 13 → AreRoles words roles → ((i : ℕ) → get_or words i 0 < 2 ^ 64) → HasState words
no_flaw_stands words roles header none are small =
    let all : AreWords words = record { small = small } in
    record { state = primary (tables_in words); stands = lawful_stands words (get_or words 2 0) (words_lawful words (get_or words 2 0) roles header.headed none are all) all }

pub none_or : (words roles : List ℕ) (found : Option Flaw) → HasHeader words → AreRoles words roles → ((i : ℕ) → get_or words i 0 < 2 ^ 64) → MatchOption found (HasNoneBefore words 13) (λ flaw. IsFirstFlaw words flaw) → MatchOption found (HasState words) (λ flaw. IsFirstFlaw words flaw)
none_or words roles None header are small none = no_flaw_stands words roles header none are small
none_or words roles (Some flaw) header are small first = first
