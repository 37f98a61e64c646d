-- A text that fits is copied whole.
use Rattle.wire.proofs.Usual.{refl, arith, length}
use Rattle.wire.proofs.Stores.{overwritten}
use Rattle.wire.proofs.put.Goals as goal

pub returns-then-src-room : goal.returns-then-src-room
returns-then-src-room c =
    overwritten c.args.src.now c.args.dst.now c.args.at (length c.args.src.now) refl
    (omega (arith, c.if-dst-at.false, c.if-src-room.true)) c.copy_from_slice.new.self c.copy_from_slice.ensures.after
