use Rattle.std.proofs.Common.{List, length, subst}
use Rattle.cas_model.specs.declared.place.Space.TheVariants.{Objects, Actions}
use Rattle.region_check.specs.declared.reach.Table.{Table}
use Rattle.region_check.specs.Shown.{LeastOfEach, TrieShown}
use Rattle.region_check.proofs.Lowest.{each_both}
use Rattle.region_check.proofs.least.leasts_shown.Goals as goal

pub returns : goal.returns
returns c =
    let one = subst (λ (ts : List Table). LeastOfEach (λ row. TrieShown c.args.words.now row Objects ts (length ts)) c.args.rows c.leasts_in_trie-objects.result) c.deref.ensures.value c.leasts_in_trie-objects.ensures in
    let two = subst (λ (ts : List Table). LeastOfEach (λ row. TrieShown c.args.words.now row Actions ts (length ts)) c.args.rows c.leasts_in_trie-actions.result) c.deref-2.ensures.value c.leasts_in_trie-actions.ensures in
    each_both c.args.words.now c.args.rows c.args.tries.now.objects.items c.args.tries.now.actions.items c.leasts_in_trie-objects.result c.leasts_in_trie-actions.result c.lower.result c.lower.ensures.first c.lower.ensures.second c.lower.ensures.third one two
