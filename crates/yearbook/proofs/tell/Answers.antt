-- What is written is the text of the answer.
use Rattle.std.proofs.Common.{arith, rules}
use Rattle.report.proofs.Parts.{put_whole}
use Rattle.yearbook.specs.Text.{ledger_text, told}
use Rattle.yearbook.proofs.tell.Goals as goal

pub write_text-requires : goal.write_text-requires
unfolding ledger_text
write_text-requires c = grind (arith, put_whole)

pub returns : goal.returns
unfolding told
returns c = search rules
