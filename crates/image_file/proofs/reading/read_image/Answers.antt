-- the words are those of the image's body
use Rattle.std.proofs.Common.{◌∙◌, ap, sym, arith}
use Rattle.image_file.specs.Image.{image_bytes}
use Rattle.image_file.proofs.ImageLemmas.{has-flaw, many-words, other-version, second, whole-image}
use Rattle.image_file.proofs.reading.read_image.Goals as goal

pub index-version-requires : goal.index-version-requires
index-version-requires c = let many = many-words _ _ _ c.in_ok-body.ensures c.in_ok-words.ensures in omega (arith, many)

pub returns-then-version-ne1-clause-refused : goal.returns-then-version-ne1-clause-refused
returns-then-version-ne1-clause-refused c =
    other-version _ _ c.in_ok-words.words.items c.index-version.result.now c.in_ok-body.ensures c.in_ok-words.ensures
    (c.index-version.ensures ∙ second _ _ (many-words _ _ _ c.in_ok-body.ensures c.in_ok-words.ensures)) c.if-version-ne1.true

pub returns-in-Ok-clause-read : goal.returns-in-Ok-clause-read
returns-in-Ok-clause-read c =
    whole-image c.args.bytes.now c.in_ok-body.body.now c.in_ok-words.words.items c.in_ok-body.ensures (λ i. omega (arith, c.type_inv.bytes i)) c.in_ok-words.ensures ∙ ap image_bytes (sym c.in-Ok.ensures.lawful)

pub returns-in-Err-Flaw-clause-refused : goal.returns-in-Err-Flaw-clause-refused
returns-in-Err-Flaw-clause-refused c =
    has-flaw _ _ c.in_ok-words.words.items c.index-version.result.now c.in-Err-Flaw.flaw c.in_ok-body.ensures c.in_ok-words.ensures
    (c.index-version.ensures ∙ second _ _ (many-words _ _ _ c.in_ok-body.ensures c.in_ok-words.ensures)) c.if-version-ne1.false (rw c.in-Err-Flaw.field-0-is at c.in-Err-Flaw.ensures.refused)
