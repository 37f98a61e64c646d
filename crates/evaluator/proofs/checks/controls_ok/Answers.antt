-- The groups' bytes and those of the record are gone over side by side.
use Rattle.std.proofs.Common.{rules, ◌∙◌, length, arith}
use Rattle.std.specs.List.{between}
use borrow.Author.Tests.{tests}
use Rattle.std.proofs.lemmas.Iterator.{YieldsList-from_slice, YieldsList-from_zip}
use Rattle.std.proofs.lemmas.Iterator.Consumers.{YieldsList-at}
use Rattle.std.proofs.lemmas.Iterator.Search.{all_from_yields_List}
use Rattle.std.proofs.lemmas.Slice.{between_to_end}
use Rattle.project.specs.Project.{device, head_size}
use Rattle.evaluator.proofs.Checking.{control_test, controls_are}
use Rattle.evaluator.proofs.checks.controls_ok.Goals as goal

pub returns : goal.returns
returns c =
    let R = c.args.rec.now in
    let controls = between_to_end R head_size (length R) (omega arith) in
    all_from_yields_List (control_test (device c.args.groups.now)) c.all.new.self _ c.all.result c.all.ensures.ran
    (YieldsList-from_zip
    (YieldsList-at c.zip.ensures.first (YieldsList-from_slice _ (c.iter.ensures.rest ∙ c.part-linked.ensures)))
    (YieldsList-from_slice (between head_size (length R) R) cc))
    (λ x b q k. search (rules, tests))
    ∙ controls_are c.args.groups.now R _ c.requires.device_value.1 controls c.requires.rec_len
