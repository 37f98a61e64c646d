-- What private functions ask of each other; nothing here has to be believed.
use Rattle.std.specs.Prelude.{ℕ, ◌*◌}
use Rattle.report.specs.Lines.{line_most}

-- 02, W4, DECISIONS 54: room for a table, its title, the lines of twelve months and its bend; and for both tables
abbrev pub table_most : ℕ
table_most = line_most * 14

abbrev pub text_most : ℕ
text_most = line_most * 28
