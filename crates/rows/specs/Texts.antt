-- The refusal of a row in words.
use Rattle.std.specs.Prelude.{ℕ, List, codes}

abbrev pub full_text : List ℕ
full_text = codes "the process has 96 intervals"
