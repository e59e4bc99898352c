-- By what the words behind each reading are.
use Rattle.grid_shell.proofs.WordTable.{of_the_table}
use Rattle.grid_shell.proofs.word_laws.words_are_those_of_the_table.Goals as goal

pub returns : goal.returns
returns c = of_the_table
