-- What a caller concludes: the tree of a digest that its call names is the call's, whose the events are, what a refusal decides, and what trees cost.
use Rattle.std.proofs.Common.{◌≡◌, ℕ, ◌+◌, List, [], ◌∷◌, ◌++◌, Bool, inr, Some, refl, sym, arith, subst}
use Rattle.cas_model.specs.declared.call.Call.{Call}
use Rattle.cas_model.specs.declared.call.Reply.TheVariants as reply
use Rattle.cas_model.specs.declared.call.Who.{Who}
use Rattle.cas_model.specs.declared.digest.Digest.{Digest}
use Rattle.cas_model.specs.State.{State}
use Rattle.cas_history.specs.declared.event.Act.TheVariants.{Room}
use Rattle.cas_history.specs.Conduct.{IsRoot}
use Rattle.cas_history.specs.Cost.{AreOfTree, Lacks, Row, rows_cost}
use Rattle.cas_port.specs.Calls.{event_of}
use Rattle.cas_port.specs.View.{View, tables_before}
use Rattle.graph_db.specs.Events.{Goes, Last}
use Rattle.fault_in.specs.FaultIn.{IsRefused}
use Rattle.fault_in.specs.Tree.{AreMissing, HasRows, HasTree}
use Rattle.cas_model.specs.Notes.{deep_note}
use Rattle.fault_in.proofs.Costs.{lacks-row}
use Rattle.fault_in.proofs.Steps.{bringing-are}

pub tree-of-root : (up : State) (call : Call) (root : Digest) → IsRoot up call root → HasTree up call root
tree-of-root up call root from = λ digest o below. record { root = root; from = from; path = below.path; leads = below.leads; is = below.is }

-- ---- a refusal

pub refused-goes : (who : Who) (root : Digest) (first : Bool) (old new : View) (at words size : ℕ) → IsRefused who root first old new at words size → Goes who old new
refused-goes who root first old new at words size h = record {
  more = event_of (deep_note who) (Room words h.moved) ∷ h.more;
  is = h.is;
  own = (inr refl, bringing-are old.upstream old.start old.speaks who root first h.more old.seen h.own);
}

-- it is the newest event, and decides every call
pub refused-last : (who : Who) (root : Digest) (first : Bool) (old new : View) (at words size : ℕ) → IsRefused who root first old new at words size → (call : Call)
    → Last (deep_note who) call (Some (reply.Full at words size)) new
refused-last who root first old new at words size h call =
    subst (λ (v : View). at ≡ (tables_before v).counter → size ≡ (tables_before v).size → Last (deep_note who) call (Some (reply.Full at words size)) v) (sym h.is)
    (λ at_is size_is. record {
      act = Room words h.moved;
      earlier = h.more ++ old.seen;
      is = refl;
      decides = λ i. Some (reply.Full (sym at_is i) words (sym size_is i));
    }) h.at_is h.size_is

-- ---- costs

lacks-both : (d : Digest) (ys xs : List Row) → Lacks d ys → Lacks d xs → Lacks d (ys ++ xs)
lacks-both d [] xs one two = two
lacks-both d (y ∷ ys) xs one two = (one.0, lacks-both d ys xs one.1 two)

-- what was brought in is not missing again: two trees have no row in common
pub rows-together : (up : State) (call : Call) (root : Digest) (s : State) (ys xs : List Row) → HasTree up call root → AreMissing up root s ys → HasRows s xs → AreOfTree up call xs → AreOfTree up call (ys ++ xs)
rows-together up call root s [] xs tree missing there h = h
rows-together up call root s (y ∷ ys) xs tree missing there h =
    (tree y.digest y.object missing.0, lacks-both y.digest ys xs missing.2 (lacks-row s y.digest xs there missing.1), rows-together up call root s ys xs tree missing.3 there h)

pub cost-together : (ys xs : List Row) → rows_cost (ys ++ xs) ≡ rows_cost ys + rows_cost xs
cost-together [] xs = omega arith
cost-together (y ∷ ys) xs = let e = cost-together ys xs in omega (arith, e)
