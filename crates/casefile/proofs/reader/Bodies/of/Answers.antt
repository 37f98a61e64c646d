-- What the starts hand out are the file's bodies.
use Rattle.casefile.specs.Bodies.{body_g, body_i, body_b, body_o, body_t}
use Rattle.casefile.proofs.Handed.{body_is}
use Rattle.casefile.proofs.reader.Bodies.of.Goals as goal

pub returns : goal.returns
returns c =
    let F = c.args.file.now in
    let s = c.starts_of-starts.ensures.are in
    record {
      groups = body_is F s body_g c.body.ensures;
      inputs = body_is F s body_i c.body-2.ensures;
      blocks = body_is F s body_b c.body-3.ensures;
      outputs = body_is F s body_o c.body-4.ensures;
      trace = body_is F s body_t c.body-5.ensures;
    }
