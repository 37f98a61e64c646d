-- `hagglethwait::hagglethwait_ledger` meets its contract: accepted, it is stored; turned down, what was lent stays.
use Rattle.wire.proofs.Usual.{◌≡◌, sym, ap, ◌∙◌, List}
use Rattle.std.proofs.Common.{Result, Ok, Err}
use Rattle.year.specs.declared.Year.{Year}
use Rattle.year.specs.declared.rules.Refusal.{Refusal}
use Rattle.year.specs.Ledger.{answer_number}
use Rattle.year.proofs.Taken.{year_number}
use Rattle.hagglethwait.specs.declared.ledgers.Columns.{Columns}
use Rattle.hagglethwait.specs.Ledgers.{columns_in, bends_in, left}
use Rattle.hagglethwait.specs.Ledgers.{findings_left, dismissed_left, rates_left, bends_left}
use Rattle.hagglethwait.proofs.hagglethwait_ledger.Goals as goal

-- `new` is what is stored of an answer's tables, `old` what was lent
module _ {A : Type 0} (new : Year → List A) (old : List A) {r : Result Year Refusal} where
  stored : {y : Year} → r ≡ Ok y → new y ≡ left new r old
  stored e = sym (ap (λ (s : Result Year Refusal). left new s old) e)

  stays : {wrong : Refusal} → r ≡ Err wrong → old ≡ left new r old
  stays e = sym (ap (λ (s : Result Year Refusal). left new s old) e)

pub returns-in-Ok : goal.returns-in-Ok
unfolding findings_left dismissed_left rates_left bends_left
returns-in-Ok c =
    let F = c.args.file.now in
    let e = sym c.year_of.ensures ∙ c.in-Ok.is in
    let s = c.columns_of.ensures in
    record {
      answered = sym (ap answer_number e) ∙ year_number F;
      found = ap (λ (k : Columns). k.findings) s ∙ stored (λ w. (columns_in w).findings) _ e;
      gone = ap (λ (k : Columns). k.dismissed) s ∙ stored (λ w. (columns_in w).dismissed) _ e;
      rated = ap (λ (k : Columns). k.rates) s ∙ stored (λ w. (columns_in w).rates) _ e;
      bent = c.bends_of.ensures ∙ stored bends_in _ e;
    }

pub returns-in-Err : goal.returns-in-Err
unfolding findings_left dismissed_left rates_left bends_left
returns-in-Err c =
    let e = sym c.year_of.ensures ∙ c.in-Err.is in
    record {
      answered = c.number.ensures ∙ sym (ap answer_number e) ∙ year_number c.args.file.now;
      found = stays (λ w. (columns_in w).findings) _ e;
      gone = stays (λ w. (columns_in w).dismissed) _ e;
      rated = stays (λ w. (columns_in w).rates) _ e;
      bent = stays bends_in _ e;
    }
