-- what the words asked for, and how far it came
use Rattle.std.proofs.Common.{refl}
use Rattle.command_line.specs.declared.command.Task.TheVariants.{Validate, Prune}
use Rattle.cas_command.specs.Run.{Ask, outside_of}
use Rattle.cas_command.proofs.RunLemmas.{dir-named, has-dir, one-call, size-within, task-prepares, task-refuses, upkeep-prepares, upkeep-refuses, work-stops}
use Rattle.cas_command.proofs.run.prepare.Goals as goal

pub returns-in-Validate-clause-ok : goal.returns-in-Validate-clause-ok
returns-in-Validate-clause-ok g c =
    let long = has-dir c.args.words.now _ _ c.in-Ok.ensures.have.names.begin in
    let ask : Ask c.args.words.now c.in-Ok.request c.index-words-1.result = record { reads = c.in-Ok.ensures; names = dir-named c.args.words.now c.index-words-1.result _ long c.index-words-1.is } in
    upkeep-prepares c.args.words.now c.in-Ok.request c.index-words-1.result c.as_str-dir.result.now ask c.as_str-dir.ensures.value Validate
    (outside_of (g.S.Source.view c.args.source.now) (g.F.Folder.view c.args.folder.now)) _ _ c.validate.result c.in-Validate.is c.none-in-Validate.ensures
    c.validate.ensures.ok

pub returns-in-Validate-clause-err : goal.returns-in-Validate-clause-err
returns-in-Validate-clause-err g c =
    let long = has-dir c.args.words.now _ _ c.in-Ok.ensures.have.names.begin in
    let ask : Ask c.args.words.now c.in-Ok.request c.index-words-1.result = record { reads = c.in-Ok.ensures; names = dir-named c.args.words.now c.index-words-1.result _ long c.index-words-1.is } in
    upkeep-refuses c.args.words.now c.in-Ok.request c.index-words-1.result c.as_str-dir.result.now ask c.as_str-dir.ensures.value Validate
    (outside_of (g.S.Source.view c.args.source.now) (g.F.Folder.view c.args.folder.now)) _ _ c.validate.result c.in-Validate.is c.none-in-Validate.ensures
    c.validate.ensures.err

pub returns-in-Prune-clause-ok : goal.returns-in-Prune-clause-ok
returns-in-Prune-clause-ok g c =
    let long = has-dir c.args.words.now _ _ c.in-Ok.ensures.have.names.begin in
    let ask : Ask c.args.words.now c.in-Ok.request c.index-words-1.result = record { reads = c.in-Ok.ensures; names = dir-named c.args.words.now c.index-words-1.result _ long c.index-words-1.is } in
    upkeep-prepares c.args.words.now c.in-Ok.request c.index-words-1.result c.as_str-dir.result.now ask c.as_str-dir.ensures.value Prune
    (outside_of (g.S.Source.view c.args.source.now) (g.F.Folder.view c.args.folder.now)) _ _ c.prune_text.result c.in-Prune.is c.none-in-Prune.ensures
    c.prune_text.ensures.ok

pub returns-in-Prune-clause-err : goal.returns-in-Prune-clause-err
returns-in-Prune-clause-err g c =
    let long = has-dir c.args.words.now _ _ c.in-Ok.ensures.have.names.begin in
    let ask : Ask c.args.words.now c.in-Ok.request c.index-words-1.result = record { reads = c.in-Ok.ensures; names = dir-named c.args.words.now c.index-words-1.result _ long c.index-words-1.is } in
    upkeep-refuses c.args.words.now c.in-Ok.request c.index-words-1.result c.as_str-dir.result.now ask c.as_str-dir.ensures.value Prune
    (outside_of (g.S.Source.view c.args.source.now) (g.F.Folder.view c.args.folder.now)) _ _ c.prune_text.result c.in-Prune.is c.none-in-Prune.ensures
    c.prune_text.ensures.err

pub run_in_folder-requires : goal.run_in_folder-requires
run_in_folder-requires g c =
    record {
      enters = c.requires;
      size = size-within _ c.in-Ok.request.options.size c.in-Ok.ensures.have.names.have.size;
      fits = c.in-Ok-work_of.ensures.fits;
      one = one-call c.in-Ok.request.task _ _ c.in-Ok-work_of.work c.in-Ok-work_of.ensures.work;
    }

pub returns-in-Ok-work_of : goal.returns-in-Ok-work_of
returns-in-Ok-work_of g c =
    let long = has-dir c.args.words.now _ _ c.in-Ok.ensures.have.names.begin in
    let ask : Ask c.args.words.now c.in-Ok.request c.index-words-1.result = record { reads = c.in-Ok.ensures; names = dir-named c.args.words.now c.index-words-1.result _ long c.index-words-1.is } in
    record {
      ok = task-prepares c.args.words.now c.in-Ok.request c.index-words-1.result c.as_str-dir.result.now ask c.as_str-dir.ensures.value _ _ c.run_in_folder.result.0 c.in-Ok-work_of.work c.run_in_folder.result.1
          c.in-Ok-work_of.ensures.work c.run_in_folder.ensures.ok;
      err = task-refuses c.args.words.now c.in-Ok.request c.index-words-1.result c.as_str-dir.result.now ask c.as_str-dir.ensures.value _ _ c.run_in_folder.result.0 c.in-Ok-work_of.work c.run_in_folder.result.1
          c.in-Ok-work_of.ensures.work c.run_in_folder.ensures.err;
    }

pub returns-in-Err-work_of : goal.returns-in-Err-work_of
returns-in-Err-work_of g c =
    let long = has-dir c.args.words.now _ _ c.in-Ok.ensures.have.names.begin in
    let ask : Ask c.args.words.now c.in-Ok.request c.index-words-1.result = record { reads = c.in-Ok.ensures; names = dir-named c.args.words.now c.index-words-1.result _ long c.index-words-1.is } in
    record {
      ok = tt;
      err = work-stops c.args.words.now c.in-Ok.request c.index-words-1.result c.as_str-dir.result.now ask c.as_str-dir.ensures.value _ _ c.none-in-Err-work_of.result c.in-Err-work_of.answer refl
          c.none-in-Err-work_of.ensures c.in-Err-work_of.ensures.stops;
    }
