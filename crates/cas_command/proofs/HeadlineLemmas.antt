-- The history of a run goes from the state of the folder to that of the folder at the end.
use Rattle.std.proofs.Common.{◌≡◌, ◌⊎◌, inl, inr, ℕ, ◌+◌, ◌<◌, Bool, true, false, List, Some, None, refl, ap, sym, subst, ◌∙◌}
use Rattle.std.specs.Prelude.{String, unwrap_or}
use Rattle.std.specs.String.{string_bytes}
use Rattle.std.specs.declared.alloc.Global.{Global}
use Rattle.std.specs.declared.option.Option.{Option}
use Rattle.std.specs.declared.vec.Vec.{Vec}
use Rattle.std.specs.FinMap as fin
use Rattle.cas_model.specs.Primary.{primary}
use Rattle.cas_model.specs.State.{State, empty_state}
use Rattle.cas_outside.specs.Folder.{Files, FolderView, PutsFile}
use Rattle.generations.specs.declared.opening.Opened.{Opened}
use Rattle.generations.specs.FolderState.{HasChain}
use Rattle.generations.specs.Laws.{ReadsChain}
use Rattle.generations.specs.GenerationNames.{generation_name}
use Rattle.generations.specs.Opened.{OpensTo, numbered}
use Rattle.unified_cas.specs.Upstream.{upstream_state}
use Rattle.generations.proofs.ChainStates.{opened-chain, rotated-chain, saved-chain}
use Rattle.image_file.specs.Image.{image_bytes}
use Rattle.region_core.specs.Builds.{empty_region}
use Rattle.cas_command.specs.declared.answer.Answer.{Answer}
use Rattle.cas_command.specs.declared.answer.Answer.TheVariants.{Done, Missing, Usage, ReadFault, WriteFault, FolderFault, Damaged, Full, Poisoned, Dangling, BadScript, Held, TooLarge, NoMemory}
use Rattle.command_line.specs.declared.command.Options.{Options}
use Rattle.cas_command.specs.declared.seen_run.Front.{Front}
use Rattle.cas_command.specs.declared.seen_run.Run.{Run}
use Rattle.cas_command.specs.declared.output.Output.{Output}
use Rattle.cas_command.specs.declared.output.Output.TheVariants.{Denied}
use Rattle.cas_command.specs.declared.rotation.Rotation.{Rotation}
use Rattle.cas_command.specs.declared.work.Work.{Work}
use Rattle.cas_command.specs.Closing.{IsImageDue}
use Rattle.cas_command.specs.SeenRun.{NotReached, closed_of, front_run, run_of}
use Rattle.cas_command.specs.Headline.{ComesAfterSave, EndsWith, HasHeadline, RunsFrom, RunsTo, RunsToTold}
use Rattle.cas_command.specs.Rotation.{IsNextDue, full_seen}
use Rattle.cas_command.specs.Run.{Because, IsPut, Outside, Prepares, Refuses, RunPrepares, World, rotation_of}
use Rattle.command_line.specs.Words.{first_size}
use Rattle.cas_command.proofs.RunLemmas.{IsOfReply, of-refused}
use Rattle.cas_command.proofs.ShownLemmas.{HasRun, shows-run}

-- ---- the primary, saved where that is due

-- the number under which the primary is saved: its own, or the first where it has no file
number-opened : (files : Files) (size : ℕ) (opened : Opened) (has : Bool) → OpensTo has (Some files) size opened → unwrap_or (numbered has opened.number) 1 ≡ opened.number
number-opened files size opened true to = refl
number-opened files size opened false to = sym to.first

-- a primary without a file holds nothing
file-or-nothing : (files : Files) (size : ℕ) (opened : Opened) (has : Bool) → OpensTo has (Some files) size opened
    → (numbered has opened.number ≡ Some opened.number) ⊎ (primary opened.primary.tables ≡ empty_state)
file-or-nothing files size opened true to = inl refl
file-or-nothing files size opened false to = inr (ap primary to.tables)

-- the files have these states, and the primary has a file under this number where it holds something
pub record HasChainFor (files : Files) (p u : State) (number : ℕ) : Type 0 where
  pub chain : HasChain files p u
  pub has : (chain.primary_number ≡ Some number) ⊎ (p ≡ empty_state)

-- the files that are told now, once the primary was saved where that was due
pub record SavedIn (now : Option Files) (closed upstream : State) (number : ℕ) : Type 0 where
  pub files : Files
  pub told : now ≡ Some files
  pub chain : HasChainFor files closed upstream number

saved-in :
    (files : Files) (size used : ℕ) (opened : Opened) (closed : State) (image : Option (Vec ℕ Global)) (between mid : FolderView) → ReadsChain files opened
    → OpensTo opened.has_file (Some files) size opened → between.files ≡ Some files → IsImageDue opened.primary.tables.size (primary opened.primary.tables) closed used image
    → IsPut opened.number image between mid → SavedIn mid.files closed (upstream_state opened.up) opened.number
saved-in files size used opened closed None between mid reads to told due put = record {
  files = files;
  told = ap (λ (v : FolderView). v.files) put ∙ told;
  chain = subst (λ (s : State). HasChainFor files s (upstream_state opened.up) opened.number) (sym due) (record {
    chain = reads.chain;
    has = elim (file-or-nothing files size opened opened.has_file to) [ inl number ↦ inl (reads.primary_is ∙ number) | inr nothing ↦ inr nothing ];
  });
}
saved-in files size used opened closed (Some image) between mid reads to told due put =
    let number = number-opened files size opened opened.has_file to in
    let at = saved-chain files (primary opened.primary.tables) (upstream_state opened.up) closed opened.number opened.primary.tables.size due.1.words reads.chain
    (ap (λ (n : Option ℕ). unwrap_or n 1) reads.primary_is ∙ number) due.1.words_are due.1.stands in
    record {
      files = fin.insert files (generation_name opened.number) (image_bytes due.1.words);
      told = subst (λ (bs : List ℕ). mid.files ≡ Some (fin.insert files (generation_name opened.number) bs)) due.1.is
          (subst (λ (fs : Option Files). PutsFile fs mid.files (generation_name opened.number) image.items) told put.saves.to.0);
      chain = record { chain = at.chain; has = inl at.number_is };
    }

-- ---- a new generation above it, where that is due

-- the files that are told at the end
pub record EndsIn (now : Option Files) (upstream closed : State) : Type 0 where
  pub files : Files
  pub told : now ≡ Some files
  pub to : EndsWith files upstream closed

rotated-in :
    (files : Files) (p u : State) (number size used : ℕ) (full : Bool) (rotation : Rotation) (next : Option (Vec ℕ Global)) (mid new : FolderView) → rotation.number ≡ number
    → HasChainFor files p u number → mid.files ≡ Some files → IsNextDue rotation size p used full next → IsPut (number + 1) next mid new → EndsIn new.files u p
rotated-in files p u number size used full rotation None mid new same at told due put = record {
  files = files;
  told = ap (λ (v : FolderView). v.files) put ∙ told;
  to = inl at.chain;
}
rotated-in files p u number size used full rotation (Some image) mid new same at told due put =
    elim at.has [
      | inl is ↦
          let words = empty_region (unwrap_or rotation.size size) in
          record {
            files = fin.insert files (generation_name (number + 1)) (image_bytes words);
            told = subst (λ (bs : List ℕ). new.files ≡ Some (fin.insert files (generation_name (number + 1)) bs)) due.1.is
                (subst (λ (fs : Option Files). PutsFile fs new.files (generation_name (number + 1)) image.items) told put.saves.to.0);
            to = inr (rotated-chain files p u number (unwrap_or rotation.size size) words at.chain is (subst (λ (n : ℕ). n < 4294967295) same due.0.number) due.1.words_are due.1.stands);
          }
      | inr nothing ↦ absurd (due.0.holds nothing)
    ]

-- ---- the run

module _ (files : Files) (old : FolderView) (told : old.files ≡ Some files) (front : Front) where
  runs-from : NotReached front ⊎ HasRun old front → (run : Run) → front_run front ≡ Some run → RunsFrom files run
  runs-from (inl none) run is = absurd (let two : None ≡ Some run = sym none ∙ is in cc two)
  runs-from (inr has) run is =
      let same : run_of has.opened.primary has.opened.up has.script has.ran.events ≡ run = cc (sym has.ran.is ∙ is) in
      let reads = opened-chain files has.size old has.between has.opened told has.is in
      subst (RunsFrom files) same
      (record { opened = primary has.opened.primary.tables; upstream = upstream_state has.opened.up; from = reads.chain; runs = has.ran.runs })

  runs-to :
      (dir : List ℕ) (options : Options) (work : Work) (new : FolderView) (output : Output) → RunPrepares dir options work old new front output → (run : Run) → front_run front ≡ Some run
      → RunsToTold files new.files run
  runs-to dir options work new output h run is =
      let answered = h.has.answered in
      let made_run = run_of h.opened.primary h.opened.up work.script answered.events in
      let same : made_run ≡ run = cc (sym answered.is ∙ is) in
      let reads = opened-chain files (first_size options) old h.between h.opened told h.opens.is in
      let to = subst (λ (fs : Option Files). OpensTo h.opened.has_file fs (first_size options) h.opened) told h.opens.is.to in
      let unchanged = ap (λ (v : FolderView). v.files) h.opens.only.is ∙ told in
      let due = h.has.is.due in
      let mid = saved-in files (first_size options) _ h.opened (closed_of answered.events) h.made.images.image h.between h.saved.between reads to unchanged due.image h.saved.saved in
      let end = rotated-in mid.files (closed_of answered.events) (upstream_state h.opened.up) h.opened.number h.opened.primary.tables.size h.has.is.used (full_seen h.has.replies.sessions)
      (rotation_of options h.opened.number) h.made.images.next h.saved.between new refl mid.chain mid.told due.next h.saved.rotated in
      let done : RunsTo files end.files made_run = record {
        opened = primary h.opened.primary.tables;
        upstream = upstream_state h.opened.up;
        from = reads.chain;
        replies = h.has.replies;
        answers = answered.answers;
        to = end.to;
      } in
      subst (λ (fs : Option Files). RunsToTold files fs run) (sym end.told) (subst (RunsTo files end.files) same done)

prepares-to :
    (files : Files) (words : List (String Global)) (before after : Outside) (front : Front) (output : Output) → before.folder.files ≡ Some files → Prepares words before after front output
    → (run : Run) → front_run front ≡ Some run → RunsToTold files after.folder.files run
prepares-to files words before after front output told h run is = elim h.is [
  | inl task ↦ runs-to files before.folder told front (string_bytes h.dir) h.request.options task.work after.folder output task.prepares run is
  | inr upkeep ↦ absurd (let two : None ≡ Some run = sym upkeep.no_run ∙ is in cc two)
]

module _ (files : Files) (words : List (String Global)) (before after : World) (front : Front) (told : before.outside.folder.files ≡ Some files) (run : Run) (is : front_run front ≡ Some run) where
  reply-to : (given : Answer) → IsOfReply given → Refuses words before.outside after.outside front given ⊎ Prepares words before.outside after.outside front (Denied given)
      → RunsToTold files after.outside.folder.files run
  reply-to given of why = elim why [
    | inl refuses ↦ absurd (of-refused words before.outside after.outside front given of refuses)
    | inr prepares ↦ prepares-to files words before.outside after.outside front (Denied given) told prepares run is
  ]

  saved-to : (given : Answer) → Because words before after front given → ComesAfterSave given → RunsToTold files after.outside.folder.files run
  saved-to Done h comes = prepares-to files words before.outside after.outside front _ told h.prepares run is
  saved-to WriteFault h comes = prepares-to files words before.outside after.outside front _ told h.prepares run is
  saved-to (Missing digest) h comes = reply-to (Missing digest) tt h.why
  saved-to (Full full) h comes = reply-to (Full full) tt h.why
  saved-to (Poisoned wanted kept) h comes = reply-to (Poisoned wanted kept) tt h.why
  saved-to (Dangling index digest) h comes = reply-to (Dangling index digest) tt h.why
  saved-to (Usage kind) h comes = absurd comes
  saved-to ReadFault h comes = absurd comes
  saved-to FolderFault h comes = absurd comes
  saved-to (Damaged name error) h comes = absurd comes
  saved-to (BadScript line kind) h comes = absurd comes
  saved-to Held h comes = absurd comes
  saved-to (TooLarge what number) h comes = absurd comes
  saved-to NoMemory h comes = absurd comes

pub headline : (words : List (String Global)) (before after : World) (front : Front) (given : Answer) → Because words before after front given
    → HasHeadline before.outside.folder.files after.outside.folder.files front given
headline words before after front given h = by-files before.outside.folder.files refl where
  by-files : (told : Option Files) → before.outside.folder.files ≡ told → HasHeadline told after.outside.folder.files front given
  by-files None told = tt
  by-files (Some files) told = λ run is. (
    runs-from files before.outside.folder told front (shows-run words before after front given h) run is,
    saved-to files words before after front told run is given h,
  )
