-- A lawful fill stays lawful.
use Rattle.std.proofs.Common.{ℕ, List, sym, subst}
use Rattle.cas_model.specs.declared.digest.Digest.{Digest}
use Rattle.cas_model.specs.declared.object.Object.{Object}
use Rattle.cas_model.specs.State.{State}
use Rattle.cas_model.specs.Tables.{Tables}
use Rattle.cas_history.specs.Lawful.{IsObjectRule, IsActionRule, Agrees}
use Rattle.cas_history.specs.Grows.{Grows}
use Rattle.cas_history.proofs.Grown.{content-lasts, object-lasts, filled-lasts, digest-lasts}
use Rattle.std.specs.FinMap as fin

pub object-rule-lasts : (up : State) (s t : Tables) (digest : Digest) (value : ℕ) (words : List ℕ) → Grows s t → IsObjectRule up s digest value words → IsObjectRule up t digest value words
object-rule-lasts up s t digest value words grows rule = record {
  for = content-lasts s t grows digest value words rule.for;
  same = subst (λ (o : Object). Agrees (fin.get up.objects digest) o) (sym (object-lasts s t grows value words rule.for.refs)) rule.same;
}

pub action-rule-lasts : (up : State) (s t : Tables) (key : Digest) (value : ℕ) → Grows s t → IsActionRule up s key value → IsActionRule up t key value
action-rule-lasts up s t key value grows rule = record {
  object = filled-lasts s t grows value rule.object;
  same = subst (λ (d : Digest). Agrees (fin.get up.cache key) d) (sym (digest-lasts s t grows value rule.object.object.found rule.object.object.is)) rule.same;
}
