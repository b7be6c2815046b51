-- Where nothing fails, a run has one of few answers.
use Rattle.std.proofs.Common.{◌≡◌, ℕ, ◌+◌, ◌≤◌, ◌⊎◌, inl, inr, Bool, true, false, cond, List, [], ◌∷◌, slice_get, Some, None, Err, ap, sym, subst, ◌∙◌, arith}
use Rattle.std.specs.Prelude.{String}
use Rattle.std.specs.String.{string_bytes}
use Rattle.std.specs.declared.alloc.Global.{Global}
use Rattle.std.specs.declared.option.Option.{Option}
use Rattle.std.specs.declared.vec.Vec.{Vec}
use Rattle.std.specs.FinMap as fin
use Rattle.cas_model.specs.declared.call.Reply.{Reply}
use Rattle.cas_model.specs.declared.call.Reply.TheVariants as reply
use Rattle.cas_model.specs.declared.digest.Digest.{Digest}
use Rattle.cas_model.specs.State.{State}
use Rattle.cas_model.specs.Tables.{same_digest}
use Rattle.cas_outside.specs.Causes.{Rose}
use Rattle.cas_outside.specs.Folder.{Files, FolderView}
use Rattle.generations.specs.declared.saving.SaveError.{SaveError}
use Rattle.generations.specs.declared.saving.SaveError.TheVariants as save
use Rattle.generations.specs.FolderState.{HasState, IsStateOf}
use Rattle.generations.specs.GenerationNames.{generation_name}
use Rattle.generations.specs.Opened.{IsDamaged, IsRefused}
use Rattle.generations.specs.Saved.{SavesTo}
use Rattle.generations.proofs.ChainStates.{chain-once}
use Rattle.image_file.specs.declared.error.ImageError.{ImageError}
use Rattle.image_file.specs.Image.{RefusesImage, image_bytes}
use Rattle.image_file.proofs.ImageLemmas.{lawful-read}
use Rattle.sessions.specs.declared.replies.Replies.{Replies}
use Rattle.cas_script.specs.declared.script.Line.{Line}
use Rattle.cas_script.specs.declared.script.Script.{Script}
use Rattle.cas_script.specs.declared.script.Session.{Session}
use Rattle.cas_script.specs.Parsing.{session_of}
use Rattle.cas_script.specs.Single.{call_line}
use Rattle.cas_command.specs.declared.answer.Answer.{Answer}
use Rattle.cas_command.specs.declared.answer.Answer.TheVariants.{Done, Missing, Usage, ReadFault, WriteFault, FolderFault, Damaged, Full, Poisoned, Dangling, BadScript, Held, TooLarge, NoMemory}
use Rattle.cas_command.specs.declared.answer.Large.TheVariants.{Data, References, Script as ScriptBytes}
use Rattle.cas_command.specs.declared.closing.Images.{Images}
use Rattle.command_line.specs.Commands.{call_of, shown_by}
use Rattle.command_line.specs.declared.command.Command.{Command}
use Rattle.command_line.specs.declared.command.Command.TheVariants.{Make, CatNodeData, LsNodeRefs, PutCacheKey, GetCacheResult}
use Rattle.command_line.specs.declared.command.Options.{Options}
use Rattle.command_line.specs.declared.command.Task.{Task}
use Rattle.command_line.specs.declared.command.Task.TheVariants.{Once, Batch, Workload, Validate, Prune}
use Rattle.cas_command.specs.declared.seen_run.Front.{Front}
use Rattle.cas_command.specs.declared.output.Output.{Output}
use Rattle.cas_command.specs.declared.output.Output.TheVariants.{Denied}
use Rattle.cas_command.specs.declared.work.Report.{Report}
use Rattle.cas_command.specs.declared.work.Work.{Work}
use Rattle.cas_command.specs.Complete.{AnswersTask, IsQuiet, IsCompleteRun, IsReadable, MayAnswer}
use Rattle.cas_command.specs.SeenRun.{closed_of}
use Rattle.cas_command.specs.Opening.{OpenCause}
use Rattle.cas_command.specs.Output.{IsOutputOfOne, Reports, refusal_of}
use Rattle.cas_command.specs.Pruning.{EnterCause, PruneCause}
use Rattle.cas_command.specs.Run.{Because, IsPut, Prepares, PutStops, Refuses, SavingStops, UpkeepRefuses, World, WordsRefused, save_answer}
use Rattle.cas_command.specs.Work.{IsWork, Source, TaskStops}
use Rattle.cas_command.proofs.FolderLemmas.{rose-since}
use Rattle.cas_command.proofs.RunLemmas.{IsOfReply, prepares-denied, upkeep-text}

-- ---- what a task may answer

done-may : (task : Task) → MayAnswer task Done
done-may (Once command) = tt
done-may Batch = tt
done-may (Workload rounds) = tt
done-may Validate = tt
done-may Prune = tt

memory-may : (task : Task) → MayAnswer task NoMemory
memory-may (Once command) = tt
memory-may Batch = tt
memory-may (Workload rounds) = tt
memory-may Validate = tt
memory-may Prune = tt

given-memory : (task : Task) (given : Answer) → given ≡ NoMemory → MayAnswer task given
given-memory task given is = subst (MayAnswer task) (sym is) (memory-may task)

-- why a task's work was not made ready
stops-may : (task : Task) (before after : Source) (given : Answer) → (Rose before.faults after.faults → ⊥) → TaskStops task before after given → MayAnswer task given
stops-may (Once command) before after Done quiet h = absurd h
stops-may (Once command) before after (Missing digest) quiet h = absurd h
stops-may (Once command) before after (Usage kind) quiet h = absurd h
stops-may (Once command) before after ReadFault quiet h = absurd (quiet h.why)
stops-may (Once command) before after WriteFault quiet h = absurd h
stops-may (Once command) before after FolderFault quiet h = absurd h
stops-may (Once command) before after (Damaged name error) quiet h = absurd h
stops-may (Once command) before after (Full full) quiet h = absurd h
stops-may (Once command) before after (Poisoned wanted kept) quiet h = absurd h
stops-may (Once command) before after (Dangling index digest) quiet h = absurd h
stops-may (Once command) before after (BadScript line kind) quiet h = absurd h
stops-may (Once command) before after Held quiet h = absurd h
stops-may (Once command) before after (TooLarge Data number) quiet h = subst (λ (c : Command). MayAnswer (Once c) (TooLarge Data number)) (sym h.makes) tt
stops-may (Once command) before after (TooLarge References number) quiet h = absurd h
stops-may (Once command) before after (TooLarge ScriptBytes number) quiet h = absurd h
stops-may (Once command) before after NoMemory quiet h = tt
stops-may Batch before after Done quiet h = absurd h
stops-may Batch before after (Missing digest) quiet h = absurd h
stops-may Batch before after (Usage kind) quiet h = absurd h
stops-may Batch before after ReadFault quiet h = absurd (quiet h)
stops-may Batch before after WriteFault quiet h = absurd h
stops-may Batch before after FolderFault quiet h = absurd h
stops-may Batch before after (Damaged name error) quiet h = absurd h
stops-may Batch before after (Full full) quiet h = absurd h
stops-may Batch before after (Poisoned wanted kept) quiet h = absurd h
stops-may Batch before after (Dangling index digest) quiet h = absurd h
stops-may Batch before after (BadScript line kind) quiet h = tt
stops-may Batch before after Held quiet h = absurd h
stops-may Batch before after (TooLarge ScriptBytes number) quiet h = tt
stops-may Batch before after (TooLarge References number) quiet h = absurd h
stops-may Batch before after (TooLarge Data number) quiet h = absurd h
stops-may Batch before after NoMemory quiet h = tt
stops-may (Workload rounds) before after given quiet h = given-memory (Workload rounds) given h.0
stops-may Validate before after given quiet h = absurd h
stops-may Prune before after given quiet h = absurd h

-- ---- a folder that is readable is not damaged

-- a generation whose file is the image of lawful words is not damaged
unharmed : (files : Files) (number : ℕ) (state : State) (error : ImageError) → HasState files number state → IsDamaged files number error → ⊥
unharmed files number state error has damage =
    let same : Some damage.file ≡ Some (image_bytes has.words) = sym damage.there ∙ has.file in
    damage.named (lawful-read has.words has.size state error has.words_are has.stands (subst (λ (bs : List ℕ). RefusesImage bs error) (some-same same) damage.refused)) where
      some-same : {X : Type 0} {x y : X} → Some x ≡ Some y → x ≡ y
      some-same h = cc h

state-there : (files : Files) (own : Option ℕ) (number : ℕ) (state : State) → own ≡ Some number → IsStateOf files own state → HasState files number state
state-there files own number state is of = subst (λ (n : Option ℕ). IsStateOf files n state) is of

undamaged : (files : Option Files) (name : ℕ) (error : ImageError) → IsReadable files → IsRefused files name error → ⊥
undamaged None name error readable refused = readable
undamaged (Some files) name error readable refused =
    let chain = readable.1.chain in
    let numbers = chain-once files chain.primary_number chain.upstream_number (Some refused.primary) refused.upstream chain.numbers refused.chain in
    elim refused.which [
      | inl is ↦ unharmed files name readable.1.primary error (state-there files chain.primary_number name readable.1.primary (numbers.0 ∙ ap Some (sym is)) chain.primary_is) refused.damage
      | inr below ↦ unharmed files name readable.1.upstream error (state-there files chain.upstream_number name readable.1.upstream (numbers.1 ∙ below.1) chain.upstream_is) refused.damage
    ]

opens-may :
    (task : Task) (old new : FolderView) (given : Answer) → (Rose old.faults new.faults → ⊥) → (Rose old.held new.held → ⊥) → IsReadable old.files → OpenCause old new given → MayAnswer task given
opens-may task old new Done quiet free readable h = absurd h
opens-may task old new (Missing digest) quiet free readable h = absurd h
opens-may task old new (Usage kind) quiet free readable h = absurd h
opens-may task old new ReadFault quiet free readable h = absurd h
opens-may task old new WriteFault quiet free readable h = absurd h
opens-may task old new FolderFault quiet free readable h = absurd (quiet h)
opens-may task old new (Damaged name error) quiet free readable h = absurd (undamaged old.files name error readable h)
opens-may task old new (Full full) quiet free readable h = absurd h
opens-may task old new (Poisoned wanted kept) quiet free readable h = absurd h
opens-may task old new (Dangling index digest) quiet free readable h = absurd h
opens-may task old new (BadScript line kind) quiet free readable h = absurd h
opens-may task old new Held quiet free readable h = absurd (free h)
opens-may task old new (TooLarge what number) quiet free readable h = absurd h
opens-may task old new NoMemory quiet free readable h = memory-may task

written-may :
    (task : Task) (number : ℕ) (due : Option (Vec ℕ Global)) (old between new : FolderView) (given : Answer) → (Rose old.faults new.faults → ⊥) → old.faults ≤ between.faults
    → PutStops number due between new given → MayAnswer task given
written-may task number due old between new given quiet later stops = by-error stops.error stops.is stops.puts.saves.to where
  by-error : (error : SaveError) → given ≡ save_answer error → SavesTo (generation_name number) stops.image.items between new (Err error) → MayAnswer task given
  by-error save.FolderFault is to = absurd (quiet (rose-since old.faults between.faults new.faults later to.1))
  by-error save.Memory is to = given-memory task given is

-- why the folder was not entered and locked
enters-may : (task : Task) (old new : FolderView) (given : Answer) → (Rose old.faults new.faults → ⊥) → (Rose old.held new.held → ⊥) → EnterCause old new given → MayAnswer task given
enters-may task old new Done quiet free h = absurd h
enters-may task old new (Missing digest) quiet free h = absurd h
enters-may task old new (Usage kind) quiet free h = absurd h
enters-may task old new ReadFault quiet free h = absurd h
enters-may task old new WriteFault quiet free h = absurd h
enters-may task old new FolderFault quiet free h = absurd (quiet h)
enters-may task old new (Damaged name error) quiet free h = absurd h
enters-may task old new (Full full) quiet free h = absurd h
enters-may task old new (Poisoned wanted kept) quiet free h = absurd h
enters-may task old new (Dangling index digest) quiet free h = absurd h
enters-may task old new (BadScript line kind) quiet free h = absurd h
enters-may task old new Held quiet free h = absurd (free h)
enters-may task old new (TooLarge what number) quiet free h = absurd h
enters-may task old new NoMemory quiet free h = memory-may task

prunes-may : (task : Task) (old between new : FolderView) (given : Answer) → (Rose old.faults new.faults → ⊥) → old.faults ≤ between.faults → PruneCause between new given → MayAnswer task given
prunes-may task old between new Done quiet later h = absurd h
prunes-may task old between new (Missing digest) quiet later h = absurd h
prunes-may task old between new (Usage kind) quiet later h = absurd h
prunes-may task old between new ReadFault quiet later h = absurd h
prunes-may task old between new WriteFault quiet later h = absurd h
prunes-may task old between new FolderFault quiet later h = absurd (quiet (rose-since old.faults between.faults new.faults later h.to.1))
prunes-may task old between new (Damaged name error) quiet later h = absurd h
prunes-may task old between new (Full full) quiet later h = absurd h
prunes-may task old between new (Poisoned wanted kept) quiet later h = absurd h
prunes-may task old between new (Dangling index digest) quiet later h = absurd h
prunes-may task old between new (BadScript line kind) quiet later h = absurd h
prunes-may task old between new Held quiet later h = absurd h
prunes-may task old between new (TooLarge what number) quiet later h = absurd h
prunes-may task old between new NoMemory quiet later h = memory-may task

-- why a task without a script stopped
upkeep-may :
    (task : Task) (dir : List ℕ) (options : Options) (old new : FolderView) (given : Answer) → (Rose old.faults new.faults → ⊥) → (Rose old.held new.held → ⊥) → IsReadable old.files
    → UpkeepRefuses task dir options old new given → MayAnswer task given
upkeep-may Validate dir options old new given quiet free readable h = elim h [
  | inl opening ↦ opens-may Validate old new given quiet free readable opening.cause
  | inr checking ↦ given-memory Validate given checking.memory
]
upkeep-may Prune dir options old new given quiet free readable h = elim h [
  | inl entering ↦ enters-may Prune old new given quiet free entering.cause
  | inr pruning ↦ prunes-may Prune old pruning.between new given quiet pruning.enters.only.later.faults pruning.cause
]
upkeep-may (Once command) dir options old new given quiet free readable h = absurd h
upkeep-may Batch dir options old new given quiet free readable h = absurd h
upkeep-may (Workload rounds) dir options old new given quiet free readable h = absurd h

written-later : (number : ℕ) (due : Option (Vec ℕ Global)) (old new : FolderView) → IsPut number due old new → old.faults ≤ new.faults
written-later number None old new put = let same = ap (λ (v : FolderView). v.faults) put in omega (arith, same)
written-later number (Some image) old new put = put.saves.later.faults

saves-may :
    (task : Task) (number : ℕ) (images : Images) (old between new : FolderView) (given : Answer) → (Rose old.faults new.faults → ⊥) → old.faults ≤ between.faults
    → SavingStops number images between new given → MayAnswer task given
saves-may task number images old between new given quiet later stops = elim stops [
  | inl saving ↦ written-may task number images.image old between new given quiet later saving
  | inr rotating ↦
      let more = written-later number images.image between rotating.between rotating.saved in
      written-may task (number + 1) images.next old rotating.between new given quiet (omega (arith, later, more)) rotating.stops
]

-- ---- answers in place of a text

-- what a reply to a command's call gives
gives-may : (command : Command) (own given : Answer) → MayAnswer (Once command) own → Some own ≡ Some given → MayAnswer (Once command) given
gives-may command own given may is = let same : own ≡ given = cc is in subst (MayAnswer (Once command)) same may

put-may : (key value kept : Digest) (test : Bool) (given : Answer) → cond test None (Some (Poisoned value kept)) ≡ Some given → MayAnswer (Once (PutCacheKey key value)) given
put-may key value kept true given is = cc is
put-may key value kept false given is = gives-may (PutCacheKey key value) (Poisoned value kept) given tt is

refused-may-be : (command : Command) (bytes : List ℕ) (its : Reply) (given : Answer) → refusal_of (call_line (call_of command bytes)) its ≡ Some given → MayAnswer (Once command) given
refused-may-be (Make refs) bytes (reply.Full a b c) given is = gives-may (Make refs) (Full (record { at = a; asked = b; size = c })) given tt is
refused-may-be (Make refs) bytes (reply.Dangling i d) given is = gives-may (Make refs) (Dangling i d) given tt is
refused-may-be (CatNodeData digest) bytes (reply.Full a b c) given is = gives-may (CatNodeData digest) (Full (record { at = a; asked = b; size = c })) given tt is
refused-may-be (CatNodeData digest) bytes reply.Missing given is = gives-may (CatNodeData digest) (Missing digest) given tt is
refused-may-be (LsNodeRefs digest) bytes (reply.Full a b c) given is = gives-may (LsNodeRefs digest) (Full (record { at = a; asked = b; size = c })) given tt is
refused-may-be (LsNodeRefs digest) bytes reply.Missing given is = gives-may (LsNodeRefs digest) (Missing digest) given tt is
refused-may-be (PutCacheKey key value) bytes (reply.Full a b c) given is = gives-may (PutCacheKey key value) (Full (record { at = a; asked = b; size = c })) given tt is
refused-may-be (PutCacheKey key value) bytes (reply.Kept kept) given is = put-may key value kept (same_digest value kept) given is
refused-may-be (PutCacheKey key value) bytes (reply.Dangling i d) given is = gives-may (PutCacheKey key value) (Dangling i d) given tt is
refused-may-be (GetCacheResult key) bytes (reply.Full a b c) given is = gives-may (GetCacheResult key) (Full (record { at = a; asked = b; size = c })) given tt is
refused-may-be (GetCacheResult key) bytes reply.Miss given is = gives-may (GetCacheResult key) (Missing key) given tt is
refused-may-be command bytes its given is = cc is

one-line : (a b : Line) → session_of (a ∷ []) ∷ [] ≡ session_of (b ∷ []) ∷ [] → a ≡ b
one-line a b h =
    let sessions : Some (session_of (a ∷ [])) ≡ Some (session_of (b ∷ [])) = ap (λ (xs : List Session). slice_get xs 0) h in
    let session : session_of (a ∷ []) ≡ session_of (b ∷ []) = cc sessions in
    let lines : a ∷ [] ≡ b ∷ [] = ap (λ (x : Session). x.lines) session in
    cc lines

-- they come of a task with one call alone
denied-may : (task : Task) (before after : Source) (work : Work) (replies : Replies) (objects actions : ℕ) (given : Answer) → IsWork task before after work → IsOfReply given
    → Reports work.report work.script replies objects actions (Denied given) → MayAnswer task given
denied-may (Once command) before after work replies objects actions given is_work of h =
    let out : IsOutputOfOne (shown_by command) work.script replies (Denied given) =
    subst (λ (r : Report). Reports r work.script replies objects actions (Denied given)) is_work.report_is h in
    let same = one-line (call_line (call_of command is_work.bytes)) out.line (sym (ap (λ (s : Script). s.sessions) is_work.script_is) ∙ out.script_is) in
    refused-may-be command is_work.bytes out.reply given (subst (λ (l : Line). refusal_of l out.reply ≡ Some given) (sym same) out.gives)
denied-may Batch before after work replies objects actions given is_work of h =
    absurd (subst (λ (r : Report). Reports r work.script replies objects actions (Denied given)) is_work.report_is h)
denied-may (Workload rounds) before after work replies objects actions given is_work of h =
    absurd (subst (λ (r : Report). Reports r work.script replies objects actions (Denied given)) is_work.report_is h)
denied-may Validate before after work replies objects actions given is_work of h = absurd is_work
denied-may Prune before after work replies objects actions given is_work of h = absurd is_work

-- ---- the run

module _ (words : List (String Global)) (before after : World) (front : Front) (quiet : IsQuiet before after) (readable : IsReadable before.outside.folder.files) where
  refused-may : (given : Answer) → Refuses words before.outside after.outside front given → WordsRefused words given ⊎ AnswersTask words given
  refused-may given h = elim h [
    | inl stop ↦ inl stop.why
    | inr stop ↦ inr (record {
      request = stop.request;
      reads = stop.ask.reads;
      may = elim stop.is [
        | inl work ↦ stops-may stop.request.task before.outside.source after.outside.source given quiet.source work.why
        | inr more ↦ elim more [
          | inl task ↦ elim task.refuses [
            | inl opening ↦ opens-may stop.request.task before.outside.folder after.outside.folder given quiet.folder quiet.held readable opening.stops.cause
            | inr later ↦ elim later [
              | inl running ↦ given-memory stop.request.task given running.memory
              | inr saving ↦
                  saves-may stop.request.task saving.opened.number saving.made.images before.outside.folder saving.between after.outside.folder given quiet.folder saving.opens.only.later.faults saving.stops
            ]
          ]
          | inr upkeep ↦ upkeep-may stop.request.task (string_bytes stop.dir) stop.request.options before.outside.folder after.outside.folder given quiet.folder quiet.held readable upkeep.refuses
        ]
      ];
    })
  ]

  denied-answer : (given : Answer) → Prepares words before.outside after.outside front (Denied given) → AnswersTask words given
  denied-answer given h = record {
    request = h.request;
    reads = h.ask.reads;
    may = elim h.is [
      | inl task ↦
          let run = task.prepares in
          let closed = closed_of run.has.answered.events in
          denied-may h.request.task before.outside.source after.outside.source task.work run.has.replies (fin.len closed.objects) (fin.len closed.cache) given task.is_work
          (prepares-denied words before.outside after.outside front given h)
          (subst (λ (o : Output). Reports task.work.report task.work.script run.has.replies (fin.len closed.objects) (fin.len closed.cache) o) (sym run.is) run.has.is.reports)
      | inr upkeep ↦ absurd (upkeep-text h.request.task (string_bytes h.dir) h.request.options before.outside.folder after.outside.folder given upkeep.prepares)
    ];
  }

  with-nothing : (given : Answer) → Refuses words before.outside after.outside front given ⊎ Prepares words before.outside after.outside front (Denied given) → WordsRefused words given ⊎ AnswersTask words given
  with-nothing given why = elim why [ inl refuses ↦ refused-may given refuses | inr prepares ↦ inr (denied-answer given prepares) ]

  answered-task : (given : Answer) → Because words before after front given → WordsRefused words given ⊎ AnswersTask words given
  answered-task Done h = inr (record { request = h.prepares.request; reads = h.prepares.ask.reads; may = done-may h.prepares.request.task })
  answered-task (Missing digest) h = with-nothing (Missing digest) h.why
  answered-task (Usage kind) h = with-nothing (Usage kind) h.why
  answered-task ReadFault h = with-nothing ReadFault h.why
  answered-task WriteFault h = absurd (quiet.sink h.rose)
  answered-task FolderFault h = with-nothing FolderFault h.why
  answered-task (Damaged name error) h = with-nothing (Damaged name error) h.why
  answered-task (Full full) h = with-nothing (Full full) h.why
  answered-task (Poisoned wanted kept) h = with-nothing (Poisoned wanted kept) h.why
  answered-task (Dangling index digest) h = with-nothing (Dangling index digest) h.why
  answered-task (BadScript line kind) h = with-nothing (BadScript line kind) h.why
  answered-task Held h = with-nothing Held h.why
  answered-task (TooLarge what number) h = with-nothing (TooLarge what number) h.why
  answered-task NoMemory h = with-nothing NoMemory h.why

pub complete : (words : List (String Global)) (before after : World) (front : Front) (answer : Answer) → Because words before after front answer → IsCompleteRun words before after answer
complete words before after front answer because quiet readable = answered-task words before after front quiet readable answer because
