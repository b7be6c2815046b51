use Rattle.std.proofs.Common.{◌≡◌, Ok, ap, sym, subst, ◌∙◌, arith}
use Rattle.std.proofs.lemmas.Bool.{false≢true}
use Rattle.cas_model.specs.Decimal.{IsNumberWithin, leads}
use Rattle.cas_model.proofs.DecimalLemmas.{number-leads, number-parses, number-read, number-utf8}
use Rattle.cas_model.proofs.decimal.number_within.Goals as goal

pub returns-then-not-leads-clause-none : goal.returns-then-not-leads-clause-none
returns-then-not-leads-clause-none c = λ number is.
    false≢true (sym c.if-not-leads.true ∙ c.leads.ensures ∙ number-leads c.args.least c.args.most number c.args.text.now c.ranges.most.fits is)

pub returns-in_default-clause-none : goal.returns-in_default-clause-none
returns-in_default-clause-none c = λ number is. c.in_default.ensures.cases.0 (number-utf8 c.args.least c.args.most number c.args.text.now c.ranges.most.fits is)

pub returns-in_default-parse-clause-none : goal.returns-in_default-parse-clause-none
returns-in_default-parse-clause-none c = λ number is.
    let same : c.parse.result ≡ Ok number = number-parses c.args.least c.args.most number c.in-Ok.digits.now c.parse.result c.ranges.most.fits
    (subst (λ text. IsNumberWithin c.args.least c.args.most text number) (sym c.in-Ok.ensures.cases.0) is) c.parse.ensures.value.0 in
    cc (same, c.in_default-parse.is)

pub returns-then-number-least-clause-none : goal.returns-then-number-least-clause-none
returns-then-number-least-clause-none c = λ number is.
    let same : c.parse.result ≡ Ok number = number-parses c.args.least c.args.most number c.in-Ok.digits.now c.parse.result c.ranges.most.fits
    (subst (λ text. IsNumberWithin c.args.least c.args.most text number) (sym c.in-Ok.ensures.cases.0) is) c.parse.ensures.value.0 in
    let equal : c.in-Ok-parse.number ≡ number = cc (same, c.in-Ok-parse.is) in
    let low = is.low in
    let high = is.high in
    omega (arith, equal, c.then-number-least.either)

pub returns-clause-found : goal.returns-clause-found
returns-clause-found c = record {
  digits = sym c.in-Ok.ensures.cases.0 ∙ number-read c.in-Ok.digits.now c.parse.result c.in-Ok-parse.number
      (ap leads c.in-Ok.ensures.cases.0 ∙ sym c.leads.ensures ∙ c.if-not-leads.false) c.parse.ensures.value.0 c.in-Ok-parse.is;
  low = c.if-number-least.false;
  high = c.if-most-number.false;
}
