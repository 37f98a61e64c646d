-- Each place of a column is filled from its line.
use Rattle.std.proofs.Common.{rules, ◌≡◌, ◌+◌, ap₂, length}
use Rattle.hagglethwait.specs.Ledgers.{columns_of}
use Rattle.hagglethwait.proofs.Columns.{column_is}
use Rattle.hagglethwait.proofs.ledgers.columns_of.Goals as goal

pub returns : goal.returns
unfolding columns_of
returns c =
    let e = c.args.every.now in
    let p = c.args.person.now in
    let long : length e + length p ≡ 24 = ap₂ ◌+◌ c.told-every c.told-person in
    let findings = column_is (λ l. l.findings) e p (λ x b q k. search rules) long c.from_fn.ensures.items in
    let dismissed = column_is (λ l. l.dismissed) e p (λ x b q k. search rules) long c.from_fn-2.ensures.items in
    let rates = column_is (λ l. l.rate) e p (λ x b q k. search rules) long c.from_fn-3.ensures.items in
    λ i. record { findings = findings i; dismissed = dismissed i; rates = rates i }
