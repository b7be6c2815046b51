use Rattle.std.proofs.Common.{List, length, subst}
use Rattle.cas_model.specs.declared.place.Space.TheVariants.{Actions}
use Rattle.region_check.specs.declared.reach.Table.{Table}
use Rattle.region_check.specs.declared.slot_flaws.Row.TheVariants as rows
use Rattle.region_check.specs.Shown.{LeastWhere, TrieShown}
use Rattle.region_check.proofs.Links.{value_least}
use Rattle.region_check.proofs.least.least_value.Goals as goal

pub returns : goal.returns
returns c =
    value_least c.args.words.now c.args.tries.now.objects.items c.args.tries.now.actions.items c.requires.tries c.least_in_trie.result
    (subst (λ (ts : List Table). LeastWhere (TrieShown c.args.words.now rows.Value Actions ts (length ts)) c.least_in_trie.result) c.deref.ensures.value c.least_in_trie.ensures)
