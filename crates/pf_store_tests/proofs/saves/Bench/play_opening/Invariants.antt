use Rattle.pf_book.specs.Books.{setting_of}
use Rattle.pf_store_tests.specs.declared.books.TheConstants.{HISTORY_LIMIT}
use Rattle.pf_store_tests.proofs.saves.Bench.play_opening.Given as goal

-- the opening is named by what it gave, its history, and its limits
abbrev pub ghosts-play_over-J-Naming : goal.ghosts-play_over-J-Naming
ghosts-play_over-J-Naming g a = record { base = a.opening.given; history = a.opening.history }

abbrev pub ghosts-play_over-J-Chapter : goal.ghosts-play_over-J-Chapter
ghosts-play_over-J-Chapter g a = record { setting = setting_of a.opening HISTORY_LIMIT }
