-- Where the table is right each field is what a callee read, and the last the file's length; the laws of `Stretches`
-- say the rest.
use Rattle.std.proofs.lemmas.Grind.{common_steps}
use Rattle.wire.proofs.Usual.{◌≡◌, ◌∙◌, length, false, arith}
use Rattle.wire.proofs.Places.{ok, bad}
use Rattle.casefile.specs.Bodies.{starts_of}
use Rattle.casefile.proofs.Stretches.{starts_none, starts_own, both}
use Rattle.casefile.proofs.reader.starts_of.Goals as goal

pub returns-then-not-ok : goal.returns-then-not-ok
returns-then-not-ok c =
    let not_right : c.ok.result ≡ false = grind (arith, common_steps) in
    let said = both _ (starts_none _ (bad c.ok.ensures not_right)) in
    record { are = said.0; within = said.1 }

pub returns : goal.returns
returns c =
    let read : record {
      group = c.start.result;
      input = c.start-2.result;
      block = c.start-3.result;
      output = c.start-4.result;
      trace = c.start-5.result;
      end = length c.args.file.now;
    }
    ≡ starts_of c.args.file.now = (λ i. record {
      group = c.start.ensures i;
      input = c.start-2.ensures i;
      block = c.start-3.ensures i;
      output = c.start-4.ensures i;
      trace = c.start-5.ensures i;
      end = length c.args.file.now;
    })
    ∙ starts_own _ (ok c.ok.ensures c.if-not-ok.false) in
    let said = both _ read in
    record { are = said.0; within = said.1 }
