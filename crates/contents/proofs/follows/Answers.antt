-- Whether the file has both entries or not, their numbers are the same.
use Rattle.std.proofs.Common.{rules}
use Rattle.contents.specs.Contents.{follows_ok, body_start, body_size}
use Rattle.contents.proofs.follows.Goals as goal

pub returns-then-file-next : goal.returns-then-file-next
unfolding follows_ok body_start body_size
returns-then-file-next c = search rules

pub returns : goal.returns
unfolding follows_ok body_start body_size
returns c = search rules
