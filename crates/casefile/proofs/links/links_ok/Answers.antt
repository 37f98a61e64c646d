use Rattle.std.proofs.Common.{rules, refl, arith}
use borrow.Author.Tests.{tests}
use Rattle.wire.proofs.Usual.{List, ℕ}
use Rattle.wire.specs.Places.{all}
use Rattle.wire.proofs.Iterating.{all_over_records}
use Rattle.project.specs.Project.{block_count, block_size, link_count, row_of}
use Rattle.casefile.specs.Rules.{link_ok, links_ok}
use Rattle.casefile.proofs.links.links_ok.Goals as goal

pub returns : goal.returns
unfolding links_ok block_count row_of
returns c = all_over_records (links_ok c.args.inputs.now c.args.blocks.now)
    (λ (R : List ℕ). all (link_ok c.args.inputs.now c.args.blocks.now R) link_count) block_size c.args.blocks.now
    (omega arith) c.all.ensures.ran (search rules) (search rules) (λ x b q k. search (rules, tests)) (λ j l. refl)
