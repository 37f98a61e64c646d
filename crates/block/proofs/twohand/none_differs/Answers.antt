-- `block::none_differs` meets its contract.
use Rattle.block.proofs.Masks.{none_apart}
use Rattle.block.proofs.twohand.none_differs.Goals as goal

pub returns : goal.returns
returns c = λ h. none_apart c.args.active c.args.x h
