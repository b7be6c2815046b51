use Rattle.std.proofs.Common.{◌-◌, ℕ, List, ◌++◌, length, replicate, ap, ◌∙◌, arith}
use Rattle.region_words.proofs.Beginning.{opens-from}
use Rattle.region_words.proofs.region.Region.of_frozen.Goals as goal

pub of_words-requires : goal.of_words-requires
of_words-requires c =
    let seen = c.seen.ensures in
    opens-from c.key_of-key.result c.args.frozen.now c.as_slice.result.now (c.size-size.result - length c.args.frozen.now.words) c.key_of-key.ensures.start seen
    (let counter = seen.counter in let most = seen.start.counter_most in let size = c.size-size.ensures in omega arith)
    (c.as_slice.ensures.value ∙ c.in_ok-words.ensures ∙ ap (λ (l : List ℕ). l ++ replicate (c.size-size.result - length l) 0) c.words.ensures)
