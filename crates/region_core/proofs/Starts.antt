-- The tables in words that stand for a state are a lawful start, and name the state. The claims of what they hold fit in the words.
use Rattle.std.proofs.Common.{◌≡◌, ℕ, ◌<◌, List, length, get_or, Some, refl, arith}
use Rattle.std.specs.FinMap as fin
use Rattle.cas_model.specs.declared.contents.Pair.{Pair}
use Rattle.cas_model.specs.declared.digest.Digest.{Digest}
use Rattle.cas_model.specs.declared.object.Object.{Object}
use Rattle.cas_model.specs.declared.place.Place.{Place}
use Rattle.cas_model.specs.declared.place.Space.{Space}
use Rattle.cas_model.specs.declared.place.Space.TheVariants.{Objects, Actions}
use Rattle.cas_model.specs.Claims.{Fit, contents_claims}
use Rattle.cas_model.specs.Contents.{AreLawfulContents, contents_state}
use Rattle.cas_model.specs.Primary.{primary}
use Rattle.cas_model.specs.Start.{IsLawfulStart}
use Rattle.cas_model.specs.State.{State, Member}
use Rattle.cas_model.specs.Tables.{place_of}
use Rattle.cas_model.proofs.Fitting.{contents-fit}
use Rattle.cas_model.proofs.Maps.{same-states}
use Rattle.region_core.specs.Certificate.{IsCertified}
use Rattle.region_core.specs.Found.{heap_of, tables_in}
use Rattle.region_core.specs.Goes.{Goes, tables_of}
use Rattle.region_core.specs.Heap.{Laid, memory_of}
use Rattle.region_core.specs.Stands.{AreWords, Stands}
use Rattle.region_core.proofs.Counting.{digests_below, digest-in, labelling-paid}
use Rattle.region_core.proofs.Finding.{record_below}
use Rattle.region_core.proofs.Founding.{IsLawful, stands_certified, lawful_certified, found_laid, found_contents}
use Rattle.region_core.proofs.Labels.{certified_stands}
use Rattle.region_core.proofs.Tables.{tables_go, lawful_start, primary_is, primary_names, same_option}

module _ (words : List ℕ) (size : ℕ) (state : State) (st : Stands words size state) (all : AreWords words) where
  certified : IsCertified (heap_of words) words size state
  certified = stands_certified words size state st all

  pub tables_in-go : Goes (heap_of words) (tables_in words)
  unfolding tables_in
  tables_in-go = tables_go (heap_of words) (memory_of words) (length words) (get_or words 2 0) certified.laid

  pub tables_in-size : (tables_in words).size ≡ size
  unfolding tables_in tables_of
  tables_in-size = st.headed.size_there

  pub tables_in-counter : (tables_in words).counter ≡ length words
  unfolding tables_in tables_of
  tables_in-counter = refl

  pub tables_in-lawful : IsLawfulStart (tables_in words)
  unfolding tables_in tables_of
  tables_in-lawful = lawful_start (heap_of words) words size state certified (tables_in words) tables_in-go st.headed.size_there refl refl refl

  pub tables_in-primary : primary (tables_in words) ≡ state
  tables_in-primary = primary_is (heap_of words) (memory_of words) (length words) certified.laid certified.contents (tables_in words) tables_in-go state certified.names

  -- a bound digest is that of a record of the words
  bound_in : (s : Space) (d : Digest) (p : Place) → place_of (tables_in words).bound s d ≡ Some p → Member d (digests_below s (heap_of words) (length words))
  bound_in s d p at =
      let own = (tables_in-go.places s d p).0 at in
      let low : p.at < length words = omega (arith, record_below (heap_of words) (length words) s d.bytes own.0 p.at certified.laid.shape own.1) in
      digest-in s (heap_of words) (length words) p.at own.0 d low own.1

  -- the claims of what the words hold end at or below their end
  pub tables_in-fit : (objects : List Object) (actions : List Pair) → AreLawfulContents objects actions → contents_state objects actions ≡ primary (tables_in words) → Fit (length words) 520 (contents_claims objects actions)
  unfolding tables_in tables_of
  tables_in-fit objects actions lawful state_is =
      contents-fit (tables_in words) tables_in-lawful.tied tables_in-lawful.names objects actions (digests_below Objects (heap_of words) (length words)) (digests_below Actions (heap_of words) (length words)) (length words)
      lawful state_is (bound_in Objects) (bound_in Actions) (labelling-paid (heap_of words) (memory_of words) (length words) certified.laid)

-- lawful words stand for the state that their tables name
pub lawful_stands : (words : List ℕ) (size : ℕ) → IsLawful words size → AreWords words → Stands words size (primary (tables_in words))
unfolding tables_in
lawful_stands words size st all =
    let laid = found_laid words size st all in
    let contents = found_contents words size st in
    let names = primary_names (heap_of words) (memory_of words) (length words) laid contents (tables_in words) (go laid) in
    certified_stands (heap_of words) words size (primary (tables_in words)) (lawful_certified words size st all (primary (tables_in words)) names)
  where
    go : Laid (heap_of words) (memory_of words) (length words) → Goes (heap_of words) (tables_in words)
    go laid = tables_go (heap_of words) (memory_of words) (length words) (get_or words 2 0) laid

-- words stand for one state alone
pub one_state : (words : List ℕ) (size other : ℕ) (a b : State) → Stands words size a → Stands words other b → a ≡ b
one_state words size other a b x y = same-states a b
    (λ d. same_option (fin.get a.objects d) (fin.get b.objects d) (λ o h. (y.objects d o).1 ((x.objects d o).0 h)) (λ o h. (x.objects d o).1 ((y.objects d o).0 h)))
    (λ k. same_option (fin.get a.cache k) (fin.get b.cache k) (λ v h. (y.cache k v).1 ((x.cache k v).0 h)) (λ v h. (x.cache k v).1 ((y.cache k v).0 h)))
