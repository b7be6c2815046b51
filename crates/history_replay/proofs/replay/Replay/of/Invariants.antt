-- the replay is that of the events so far
use Rattle.std.proofs.Common.{◌≡◌, reverse}
use Rattle.cas_history.specs.History.{history}
use Rattle.cas_model.specs.Start.{IsLawfulStart}
use Rattle.cas_history.specs.Lawful.{IsLawfulRun}
use Rattle.cas_history.specs.Replays.{calls_in, state_of}
use Rattle.cas_history.specs.Run.{tables}
use Rattle.history_replay.proofs.replay.Replay.of.Given as goal

abbrev pub invariant-loop-event : goal.invariant-loop-event
invariant-loop-event l = record {
  tables : l.replay.tables ≡ tables l.fn.start (reverse l.yielded);
  entries : l.replay.entries ≡ history (state_of l.fn.upstream) l.fn.start (calls_in l.fn.calls.items) (reverse l.yielded);
  upstream : l.replay.upstream ≡ l.fn.upstream;
  lawful : IsLawfulStart l.fn.start → IsLawfulRun (state_of l.fn.upstream) l.fn.start (reverse l.yielded);
  calls : l.replay.calls ≡ l.fn.calls.items;
}
