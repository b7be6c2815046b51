use Rattle.std.proofs.Common.{subst, sym, ◌∙◌, ap, List, ℕ, length}
use Rattle.cas_model.specs.Tables.{place_of}
use Rattle.region_core.specs.Found.{heap_of}
use Rattle.region_core.specs.Heap.{Laid, memory_of}
use Rattle.region_core.specs.Inserts.{Region}
use Rattle.frozen_store.specs.Seen.{FrozenSeen}
use Rattle.frozen_store.proofs.Facts.{region, looked, certified}
use Rattle.frozen_store.proofs.frozen.Frozen.look.Goals as goal

pub look-requires : goal.look-requires
look-requires c = subst Region (sym c.as_slice.ensures.value) (region c.self.inside.words.items c.self.inside.counts.objects c.self.inside.counts.actions c.self.invariant)

pub returns : goal.returns
returns c =
    let ws : List ℕ = c.self.inside.words.items in
    let x = certified c.self.inside.words.items c.self.inside.counts.objects c.self.inside.counts.actions c.self.invariant in
    let found = c.look.ensures (heap_of c.self.inside.words.items) (subst (λ (xs : List ℕ). Laid (heap_of c.self.inside.words.items) (memory_of xs) (length xs)) (sym c.as_slice.ensures.value) x.laid) in
    looked c.self.inside.words.items c.self.inside.counts.objects c.self.inside.counts.actions c.self.invariant c.args.space c.args.digest.now c.look.result found
    ∙ ap (λ (s : FrozenSeen). place_of s.tables.bound c.args.space c.args.digest.now) c.self.view_is
