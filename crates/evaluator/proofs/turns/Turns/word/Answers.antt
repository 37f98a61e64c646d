-- By the source: 0, the record's word, or what the block's port shows.
use Rattle.wire.proofs.Usual.{refl, rules}
use Rattle.std.specs.Prelude.{Some}
use Rattle.project.specs.declared.Source.TheVariants.{External, Output}
use Rattle.evaluator.proofs.Reading.{part_is, word_is, external_word, output_word_is}
use Rattle.evaluator.proofs.turns.Turns.word.Goals as goal

pub returns-in-None : goal.returns-in-None
returns-in-None c =
    word_is c.args.self.now.layout.groups c.args.self.now.layout.blocks.now c.args.self.now.rec.now c.args.state.now
    c.args.b c.args.p c.record.ensures c.source_of-source.ensures c.in-None.is refl

pub returns-in-Some-External : goal.returns-in-Some-External
returns-in-Some-External c =
    let L = c.args.self.now.layout in
    let R = c.args.self.now.rec.now in
    let S = c.args.state.now in
    word_is L.groups L.blocks.now R S c.args.b c.args.p {t = Some (External c.in-Some-External.i)} c.record.ensures
    c.source_of-source.ensures (search rules)
    (external_word L.groups L.blocks.now R S _ _ _ (part_is R _ _) c.read32.ensures)

pub returns-in-Some-Output : goal.returns-in-Some-Output
returns-in-Some-Output c =
    let L = c.args.self.now.layout in
    let R = c.args.self.now.rec.now in
    let S = c.args.state.now in
    word_is L.groups L.blocks.now R S c.args.b c.args.p {t = Some (Output c.in-Some-Output.a c.in-Some-Output.q)}
    c.record.ensures c.source_of-source.ensures (search rules)
    (output_word_is L.groups L.blocks.now R S _ _ _ c.port_shows.ensures)
