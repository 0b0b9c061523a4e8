use Rattle.pf_book.specs.Books.{setting_of}
use Rattle.pfd.proofs.program.run.Given as goal

-- the opening is named by what it gave, its history, and what it keeps within
abbrev pub ghosts-run_alone-J-Naming : goal.ghosts-run_alone-J-Naming
ghosts-run_alone-J-Naming g a = record { base = a.opening.given; history = a.opening.history }

abbrev pub ghosts-run_alone-J-Chapter : goal.ghosts-run_alone-J-Chapter
ghosts-run_alone-J-Chapter g a = record { setting = setting_of a.opening a.history }
