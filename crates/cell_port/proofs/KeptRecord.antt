-- The record of a filled object may be given to a key that was bound after it.
use Rattle.std.proofs.Common.{◌≡◌, ◌∷◌, ap, sym, ◌∙◌, subst}
use Rattle.std.specs.declared.option.Option.{Option}
use Rattle.std.specs.FinMap as fin
use Rattle.cas_model.specs.declared.digest.Digest.{Digest}
use Rattle.cas_model.specs.declared.note.Note.{Note}
use Rattle.cas_model.specs.declared.place.Place.{Place}
use Rattle.cas_model.specs.declared.place.Space.TheVariants.{Actions}
use Rattle.cas_model.specs.Start.{IsFilled}
use Rattle.cas_model.specs.State.{State, empty_state, digest_cmp}
use Rattle.cas_model.specs.Tables.{digest_at}
use Rattle.cas_history.specs.declared.event.Act.TheVariants.{Bind}
use Rattle.cas_history.specs.Grows.{Grows}
use Rattle.cas_history.specs.Lawful.{IsLawfulRun, Agrees}
use Rattle.cas_history.proofs.Grown.{grows-more, filled-lasts}
use Rattle.cas_history.proofs.Sound.{sound-run}
use Rattle.cas_port.specs.declared.block.Bound.{Bound}
use Rattle.cas_port.specs.Calls.{event_of, IsLawful, BoundTo, IsPlaceFill}
use Rattle.cas_port.specs.View.{View, tables}

module _ (note : Note) (key : Digest) (v1 v2 : View) (bound : Bound) (binds : BoundTo note Actions key v1 v2 bound) (runs : IsLawful v1 v2) where
  grows : Grows (tables v1) (tables v2)
  grows = subst (λ (v : View). Grows (tables v1) (tables v)) (sym binds.is)
      (grows-more v1.upstream v1.start (event_of note (Bind Actions key binds.own) ∷ binds.before) v1.seen (subst (λ (v : View). IsLawfulRun v.upstream v.start v.seen) binds.is runs.is))

  pub key-fill : (value : Place) → v1.upstream ≡ empty_state → IsFilled (tables v1) value.at → IsPlaceFill bound.place v2 value
  key-fill value empty is =
      let there = (sound-run v2.upstream v2.start v2.seen runs.is).tied.to Actions key bound.place binds.answer in
      let none : v2.upstream ≡ empty_state = ap (λ (v : View). v.upstream) binds.is ∙ empty in
      record {
        found = there.0;
        bound = there.1;
        action = there.2;
        lawful = record {
          object = filled-lasts (tables v1) (tables v2) grows value.at is;
          same = subst (λ (x : Option Digest). Agrees x (digest_at (tables v2).bound value.at))
              (sym (ap (λ (up : State). fin.get up.cache there.0.digest) none ∙ fin.get-empty digest_cmp there.0.digest)) tt;
        };
      }
