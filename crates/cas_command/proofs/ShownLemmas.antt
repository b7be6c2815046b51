-- The run that the front shows, if any: from which generation, and of which script.
use Rattle.std.proofs.Common.{◌⊎◌, inl, inr, ℕ, List}
use Rattle.std.specs.Prelude.{String}
use Rattle.std.specs.String.{string_bytes}
use Rattle.std.specs.declared.alloc.Global.{Global}
use Rattle.std.specs.declared.option.Option.{Option}
use Rattle.cas_outside.specs.Folder.{FolderView}
use Rattle.frozen_store.specs.Seen.{FrozenSeen}
use Rattle.generations.specs.declared.opening.Opened.{Opened}
use Rattle.generations.specs.Opened.{IsOpened}
use Rattle.sessions.specs.declared.replies.Replies.{Replies}
use Rattle.cas_script.specs.declared.script.Script.{Script}
use Rattle.cas_command.specs.declared.answer.Answer.{Answer}
use Rattle.cas_command.specs.declared.answer.Answer.TheVariants.{Done, Missing, Usage, ReadFault, WriteFault, FolderFault, Damaged, Full, Poisoned, Dangling, BadScript, Held, TooLarge, NoMemory}
use Rattle.cas_command.specs.declared.seen_run.Front.{Front}
use Rattle.cas_command.specs.declared.output.Output.{Output}
use Rattle.cas_command.specs.declared.output.Output.TheVariants.{Denied}
use Rattle.cas_command.specs.SeenRun.{Answered, NotReached, Ran}
use Rattle.cas_command.specs.Opening.{HasOpened}
use Rattle.cas_command.specs.Run.{Because, Outside, Prepares, Refuses, World}
use Rattle.command_line.specs.Words.{first_size}

abbrev pub answered-ran : (opened : FrozenSeen) (up : Option FrozenSeen) (script : Script) (replies : Replies) (front : Front) → Answered opened up script replies front → Ran opened up script front
answered-ran opened up script replies front h = record { events = h.events; is = h.is; size = h.size; counter = h.counter; runs = h.answers.runs }

-- the front shows a run from what was opened of this folder
pub record HasRun (old : FolderView) (front : Front) : Type 0 where
  pub size : ℕ
  pub between : FolderView
  pub opened : Opened
  pub is : IsOpened size old between opened
  pub script : Script
  pub ran : Ran opened.primary opened.up script front

answered-run :
    (dir : List ℕ) (size : ℕ) (old between : FolderView) (opened : Opened) (script : Script) (replies : Replies) (front : Front) → HasOpened dir size old between opened
    → Answered opened.primary opened.up script replies front → HasRun old front
answered-run dir size old between opened script replies front opens h =
    record { size = size; between = between; opened = opened; is = opens.is; script = script; ran = answered-ran opened.primary opened.up script replies front h }

refuses-run : (words : List (String Global)) (before after : Outside) (front : Front) (given : Answer) → Refuses words before after front given → NotReached front ⊎ HasRun before.folder front
refuses-run words before after front given h = elim h [
  | inl stop ↦ inl stop.no_run
  | inr stop ↦ elim stop.is [
    | inl work ↦ inl work.no_run
    | inr more ↦ elim more [
      | inl task ↦ elim task.refuses [
        | inl opening ↦ inl opening.no_run
        | inr later ↦ elim later [
          | inl running ↦ elim running.ran [
            | inl none ↦ inl none
            | inr ran ↦ inr (record { size = first_size stop.request.options; between = after.folder; opened = running.opened; is = running.opens.is; script = task.work.script; ran = ran })
          ]
          | inr saving ↦ inr (answered-run (string_bytes stop.dir) (first_size stop.request.options) before.folder saving.between saving.opened task.work.script saving.has.replies front saving.opens saving.has.answered)
        ]
      ]
      | inr upkeep ↦ inl upkeep.no_run
    ]
  ]
]

prepares-run : (words : List (String Global)) (before after : Outside) (front : Front) (output : Output) → Prepares words before after front output → NotReached front ⊎ HasRun before.folder front
prepares-run words before after front output h = elim h.is [
  | inl task ↦ inr (answered-run (string_bytes h.dir) (first_size h.request.options) before.folder task.prepares.between task.prepares.opened task.work.script task.prepares.has.replies front task.prepares.opens task.prepares.has.answered)
  | inr upkeep ↦ inl upkeep.no_run
]

nothing-run : (words : List (String Global)) (before after : Outside) (front : Front) (given : Answer) → Refuses words before after front given ⊎ Prepares words before after front (Denied given)
    → NotReached front ⊎ HasRun before.folder front
nothing-run words before after front given h = elim h [
  | inl refuses ↦ refuses-run words before after front given refuses
  | inr prepares ↦ prepares-run words before after front (Denied given) prepares
]

pub shows-run : (words : List (String Global)) (before after : World) (front : Front) (given : Answer) → Because words before after front given → NotReached front ⊎ HasRun before.outside.folder front
shows-run words before after front Done h = prepares-run words before.outside after.outside front _ h.prepares
shows-run words before after front WriteFault h = prepares-run words before.outside after.outside front _ h.prepares
shows-run words before after front (Missing digest) h = nothing-run words before.outside after.outside front (Missing digest) h.why
shows-run words before after front (Usage kind) h = nothing-run words before.outside after.outside front (Usage kind) h.why
shows-run words before after front ReadFault h = nothing-run words before.outside after.outside front ReadFault h.why
shows-run words before after front FolderFault h = nothing-run words before.outside after.outside front FolderFault h.why
shows-run words before after front (Damaged name error) h = nothing-run words before.outside after.outside front (Damaged name error) h.why
shows-run words before after front (Full full) h = nothing-run words before.outside after.outside front (Full full) h.why
shows-run words before after front (Poisoned wanted kept) h = nothing-run words before.outside after.outside front (Poisoned wanted kept) h.why
shows-run words before after front (Dangling index digest) h = nothing-run words before.outside after.outside front (Dangling index digest) h.why
shows-run words before after front (BadScript line kind) h = nothing-run words before.outside after.outside front (BadScript line kind) h.why
shows-run words before after front Held h = nothing-run words before.outside after.outside front Held h.why
shows-run words before after front (TooLarge what number) h = nothing-run words before.outside after.outside front (TooLarge what number) h.why
shows-run words before after front NoMemory h = nothing-run words before.outside after.outside front NoMemory h.why
