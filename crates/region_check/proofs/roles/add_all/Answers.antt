use Rattle.std.proofs.Common.{List, length, subst}
use Rattle.cas_model.specs.declared.place.Space.TheVariants.{Objects, Actions}
use Rattle.region_check.specs.declared.reach.Table.{Table}
use Rattle.region_check.specs.Roles.{Adds, TrieSlot, TrieCell}
use Rattle.region_check.proofs.Roling.{are_roles}
use Rattle.region_check.proofs.roles.add_all.Goals as goal

pub returns-clause-roles : goal.returns-clause-roles
returns-clause-roles c =
    are_roles c.args.words.now c.args.roles.now c.add_trie.new.roles c.add_trie-2.new.roles c.args.tries.now.objects.items c.args.tries.now.actions.items c.requires.long c.requires.zeros c.requires.tries
    (subst (λ (ts : List Table). Adds c.args.roles.now c.add_trie.new.roles (TrieSlot ts (length ts)) (TrieCell c.args.words.now Objects ts (length ts))) c.deref.ensures.value c.add_trie.ensures)
    (subst (λ (ts : List Table). Adds c.add_trie.new.roles c.add_trie-2.new.roles (TrieSlot ts (length ts)) (TrieCell c.args.words.now Actions ts (length ts))) c.deref-2.ensures.value c.add_trie-2.ensures)
