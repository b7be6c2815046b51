-- The states of a folder's two highest generations, as it is opened, saved, rotated and pruned.
use Rattle.std.proofs.Common.{◌≡◌, ◌≢◌, ℕ, ◌+◌, ◌<◌, ◌≤◌, Bool, true, false, is_some, List, inl, inr, Some, None, refl, ap, sym, ◌∙◌, subst, arith}
use Rattle.std.specs.Prelude.{unwrap_or}
use Rattle.std.specs.declared.option.Option.{Option}
use Rattle.std.specs.FinMap as fin
use Rattle.cas_model.specs.Primary.{primary}
use Rattle.cas_model.specs.State.{State, empty_state}
use Rattle.cas_outside.specs.Folder.{Files, FolderView}
use Rattle.frozen_store.specs.Seen.{FrozenSeen}
use Rattle.image_file.specs.Image.{image_bytes}
use Rattle.region_core.specs.Stands.{AreWords, Stands}
use Rattle.generations.specs.declared.opening.Opened.{Opened}
use Rattle.generations.specs.Chain.{HasGeneration, IsChain, IsHighestBelow, IsToldChain}
use Rattle.generations.specs.FolderState.{HasChain, HasState, IsStateOf}
use Rattle.generations.specs.Laws.{HasNumberedChain, ReadsChain}
use Rattle.generations.specs.GenerationNames.{generation_name}
use Rattle.generations.specs.Opened.{HasUpstream, IsOpened, IsRead, OpensTo, numbered, primary_number, upstream_number}
use Rattle.unified_cas.specs.Upstream.{upstream_state}
use Rattle.generations.proofs.ChainLemmas.{highest-once, raised, two-same}
use Rattle.generations.proofs.FileLemmas.{now-there, other-name, put-other, put-there, still-there, was-there}

-- ---- what was opened

pub read-state : (files : Files) (number : ℕ) (frozen : FrozenSeen) → IsRead (Some files) number frozen → HasState files number (primary frozen.tables)
read-state files number frozen read = record {
  words = frozen.words;
  size = frozen.tables.size;
  file = read.image;
  words_are = read.seen.words_are;
  stands = read.seen.stands;
}

upstream-is : (files : Files) (number : ℕ) (up : Option FrozenSeen) → HasUpstream (Some files) number up → IsStateOf files (numbered (is_some up) number) (upstream_state up)
upstream-is files number None has = refl
upstream-is files number (Some frozen) has = read-state files number frozen has

no-upstream : (files : Files) (number : ℕ) (up : Option FrozenSeen) → up ≡ None → IsStateOf files (numbered (is_some up) number) (upstream_state up)
no-upstream files number None is = refl
no-upstream files number (Some frozen) is = absurd (cc is)

-- the chain that was opened, whether or not the primary has a file
record Reads (files : Files) (opened : Opened) (has : Bool) : Type 0 where
  chain : HasChain files (primary opened.primary.tables) (upstream_state opened.up)
  primary_is : chain.primary_number ≡ numbered has opened.number
  upstream_is : chain.upstream_number ≡ upstream_number opened

by-file : (files : Files) (size : ℕ) (opened : Opened) (has : Bool) → IsChain files (numbered has opened.number) (upstream_number opened) → OpensTo has (Some files) size opened → Reads files opened has
by-file files size opened true numbers to = record {
  chain = record {
    primary_number = Some opened.number;
    upstream_number = upstream_number opened;
    numbers = numbers;
    primary_is = read-state files opened.number opened.primary to.read;
    upstream_is = upstream-is files opened.up_number opened.up to.upstream;
  };
  primary_is = refl;
  upstream_is = refl;
}
by-file files size opened false numbers to = record {
  chain = record {
    primary_number = None;
    upstream_number = upstream_number opened;
    numbers = numbers;
    primary_is = ap primary to.tables;
    upstream_is = no-upstream files opened.up_number opened.up to.no_upstream;
  };
  primary_is = refl;
  upstream_is = refl;
}

pub opened-chain : (files : Files) (size : ℕ) (old new : FolderView) (opened : Opened) → old.files ≡ Some files → IsOpened size old new opened → ReadsChain files opened
opened-chain files size old new opened told is =
    let numbers = subst (λ fs. IsToldChain fs (primary_number opened) (upstream_number opened)) told is.chain in
    let to = subst (λ fs. OpensTo opened.has_file fs size opened) told is.to in
    let reads = by-file files size opened opened.has_file numbers to in
    record { chain = reads.chain; primary_is = reads.primary_is; upstream_is = reads.upstream_is }

-- the numbers of one folder's chain are the same, however they were found
pub chain-once : (files : Files) (p u q v : Option ℕ) → IsChain files p u → IsChain files q v → (p ≡ q) × (u ≡ v)
chain-once files p u q v one other =
    let first : p ≡ q = highest-once (HasGeneration files) 4294967296 p q one.primary_is other.primary_is in
    (first, highest-once (HasGeneration files) (unwrap_or q 0) u v (subst (λ o. IsHighestBelow (HasGeneration files) (unwrap_or o 0) u) first one.upstream_is) other.upstream_is)

-- ---- a generation that was put

module _ (files : Files) (n : ℕ) (words : List ℕ) (small : n < 4294967296) where
  put-state : (size : ℕ) (state : State) → AreWords words → Stands words size state → HasState (fin.insert files (generation_name n) (image_bytes words)) n state
  put-state size state are stands = record {
    words = words;
    size = size;
    file = put-there files (generation_name n) (image_bytes words);
    words_are = are;
    stands = stands;
  }

  kept-state : (m : ℕ) (state : State) → m < 4294967296 → m ≢ n → HasState files m state → HasState (fin.insert files (generation_name n) (image_bytes words)) m state
  kept-state m state less differ has = record {
    words = has.words;
    size = has.size;
    file = put-other files (generation_name n) (image_bytes words) (generation_name m) (other-name m n less small differ) ∙ has.file;
    words_are = has.words_are;
    stands = has.stands;
  }

  -- a state below the number
  kept-below : (bound : ℕ) (number : Option ℕ) (state : State) → bound ≤ n → IsHighestBelow (HasGeneration files) bound number → IsStateOf files number state
      → IsStateOf (fin.insert files (generation_name n) (image_bytes words)) number state
  kept-below bound None state low highest is = is
  kept-below bound (Some m) state low highest is = (let below = highest.1 in kept-state m state (omega (arith, below, low, small)) (omega (arith, below, low)) is)

  -- the number is above all
  put-above : (p u : Option ℕ) → 1 ≤ n → IsChain files p u → unwrap_or p 0 < n → IsChain (fin.insert files (generation_name n) (image_bytes words)) (Some n) p
  put-above p u least chain above =
      raised (HasGeneration files) (HasGeneration (fin.insert files (generation_name n) (image_bytes words))) n (omega (arith, small))
      (λ m has. still-there files n m (image_bytes words) has) (now-there files n (image_bytes words) least (omega (arith, small)))
      (λ m has. was-there files n m (image_bytes words) small has) p u chain above

  -- the number was there
  put-again : (p u : Option ℕ) → HasGeneration files n → IsChain files p u → IsChain (fin.insert files (generation_name n) (image_bytes words)) p u
  put-again p u there chain =
      two-same (HasGeneration files) (HasGeneration (fin.insert files (generation_name n) (image_bytes words)))
      (λ m has. still-there files n m (image_bytes words) has)
      (λ m has. elim (was-there files n m (image_bytes words) small has) [ inl before ↦ before | inr same ↦ subst (HasGeneration files) (sym same) there ]) p u chain

-- ---- saving

saved-over : (files : Files) (u new : State) (n size : ℕ) (words : List ℕ) (v : Option ℕ) → IsChain files (Some n) v → IsStateOf files v u → AreWords words → Stands words size new
    → HasNumberedChain (fin.insert files (generation_name n) (image_bytes words)) n new u
saved-over files u new n size words v chain is are stands =
    let small = chain.primary_is.1 in
    record {
      chain = record {
        primary_number = Some n;
        upstream_number = v;
        numbers = put-again files n words small (Some n) v chain.primary_is.0 chain;
        primary_is = put-state files n words small size new are stands;
        upstream_is = kept-below files n words small n v u (omega arith) chain.upstream_is is;
      };
      number_is = refl;
    }

saved-first : (files : Files) (u new : State) (size : ℕ) (words : List ℕ) (v : Option ℕ) → IsChain files None v → IsStateOf files v u → AreWords words → Stands words size new
    → HasNumberedChain (fin.insert files (generation_name 1) (image_bytes words)) 1 new u
saved-first files u new size words None chain is are stands = record {
  chain = record {
    primary_number = Some 1;
    upstream_number = None;
    numbers = put-above files 1 words (omega arith) None None (omega arith) chain (omega arith);
    primary_is = put-state files 1 words (omega arith) size new are stands;
    upstream_is = is;
  };
  number_is = refl;
}
saved-first files u new size words (Some k) chain is are stands = (let below = chain.upstream_is.1 in absurd (omega (arith, below)))

saved-under : (files : Files) (u new : State) (size : ℕ) (words : List ℕ) (number v : Option ℕ) → IsChain files number v → IsStateOf files v u → AreWords words → Stands words size new
    → HasNumberedChain (fin.insert files (generation_name (unwrap_or number 1)) (image_bytes words)) (unwrap_or number 1) new u
saved-under files u new size words None v chain is are stands = saved-first files u new size words v chain is are stands
saved-under files u new size words (Some n) v chain is are stands = saved-over files u new n size words v chain is are stands

pub saved-chain :
    (files : Files) (p u new : State) (number size : ℕ) (words : List ℕ) (chain : HasChain files p u) → unwrap_or chain.primary_number 1 ≡ number → AreWords words → Stands words size new
    → HasNumberedChain (fin.insert files (generation_name number) (image_bytes words)) number new u
saved-chain files p u new number size words chain is are stands =
    subst (λ n. HasNumberedChain (fin.insert files (generation_name n) (image_bytes words)) n new u) is
    (saved-under files u new size words chain.primary_number chain.upstream_number chain.numbers chain.upstream_is are stands)

-- ---- rotating

pub rotated-chain :
    (files : Files) (p u : State) (number size : ℕ) (words : List ℕ) (chain : HasChain files p u) → chain.primary_number ≡ Some number → number < 4294967295 → AreWords words
    → Stands words size empty_state → HasChain (fin.insert files (generation_name (number + 1)) (image_bytes words)) empty_state p
rotated-chain files p u number size words chain is room are stands =
    let small : number + 1 < 4294967296 = omega (arith, room) in
    let numbers = subst (λ o. IsChain files o chain.upstream_number) is chain.numbers in
    let state = subst (λ o. IsStateOf files o p) is chain.primary_is in
    record {
      primary_number = Some (number + 1);
      upstream_number = Some number;
      numbers = put-above files (number + 1) words small (Some number) chain.upstream_number (omega arith) numbers (omega arith);
      primary_is = put-state files (number + 1) words small size empty_state are stands;
      upstream_is = kept-state files (number + 1) words small number p (omega (arith, room)) (omega arith) state;
    }
