use Rattle.std.proofs.Common.{◌≡◌, sym, ap, ◌∙◌, subst, List, ℕ, Some}
use Rattle.cas_model.specs.declared.object.Object.{Object}
use Rattle.region_core.specs.Leads.{object_there}
use Rattle.frozen_store.specs.Reads.{HasContentAt}
use Rattle.frozen_store.proofs.Facts.{Inside, object_none, object_seen, words_are}
use Rattle.frozen_store.proofs.frozen.Frozen.object.Goals as goal

pub object_at-requires : goal.object_at-requires
object_at-requires c =
    let y : Inside c.args.self.now = record { words = c.self.inside.words.items; objects = c.self.inside.counts.objects; actions = c.self.inside.counts.actions; frozen = c.self.invariant; is = c.self.view_is } in
    let same : c.as_slice.result.now ≡ c.args.self.now.words = c.as_slice.ensures.value ∙ sym (words_are c.args.self.now y) in
    let x = object_seen c.args.self.now y c.args.digest.now c.in-Some.place (sym c.in-Some.ensures) in
    subst (λ (ws : List ℕ). HasContentAt ws c.in-Some.place.at) (sym same) x.at

pub returns-in-None : goal.returns-in-None
returns-in-None c = sym (object_none c.args.self.now.tables c.args.digest.now (sym c.in-None.ensures))

pub returns-in_ok-object-in-Some : goal.returns-in_ok-object-in-Some
returns-in_ok-object-in-Some c =
    let y : Inside c.args.self.now = record { words = c.self.inside.words.items; objects = c.self.inside.counts.objects; actions = c.self.inside.counts.actions; frozen = c.self.invariant; is = c.self.view_is } in
    let same : c.as_slice.result.now ≡ c.args.self.now.words = c.as_slice.ensures.value ∙ sym (words_are c.args.self.now y) in
    let x = object_seen c.args.self.now y c.args.digest.now c.in-Some.place (sym c.in-Some.ensures) in
    ap (λ (o : Object). Some o) (c.in_ok-object-in-Some.ensures ∙ ap (λ (ws : List ℕ). object_there ws c.in-Some.place.at) same) ∙ sym x.is
