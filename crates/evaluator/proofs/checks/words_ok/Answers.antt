-- The inputs' records and the words of the record are gone over side by side.
use Rattle.std.proofs.Common.{rules, refl, ◌∙◌, ◌+◌, arith, length}
use borrow.Author.Tests.{tests}
use Rattle.std.proofs.lemmas.Iterator.{YieldsList-from_zip}
use Rattle.std.proofs.lemmas.Iterator.Consumers.{YieldsList-at}
use Rattle.std.proofs.lemmas.Iterator.Search.{all_from_yields_List}
use Rattle.wire.proofs.Iterating.{YieldsList-from_chunks}
use Rattle.std.proofs.lemmas.Slice.{between_to_end}
use Rattle.project.specs.Project.{head_size, input_count, input_size, word_size}
use Rattle.evaluator.proofs.Checking.{word_test, words_are}
use Rattle.evaluator.proofs.checks.words_ok.Goals as goal

pub returns : goal.returns
unfolding input_count
returns c =
    let I = c.args.inputs.now in
    let R = c.args.rec.now in
    let words = between_to_end R (head_size + c.args.c.groups) (length R) (omega arith) in
    all_from_yields_List word_test c.all.new.self _ c.all.result c.all.ensures.ran
    (YieldsList-from_zip
    (YieldsList-at c.zip.ensures.first
    (YieldsList-from_chunks input_size (omega arith) _ I c.chunks_exact.ensures.rest c.chunks_exact.ensures.size refl))
    (YieldsList-at c.zip.ensures.second
    (YieldsList-from_chunks word_size (omega arith) _ _ c.chunks_exact-2.ensures.rest c.chunks_exact-2.ensures.size
    refl)))
    (λ x b q k. search (rules, tests))
    ∙ words_are c.args.c.groups I R words (omega (arith, c.requires.inputs_len, c.requires.groups_bound))
