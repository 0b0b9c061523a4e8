use Rattle.pf_book.specs.Books.{setting_of}
use Rattle.pfd.proofs.program.serving.run_openings.Given as goal

-- each opening is named by what it gave, its history, and what it keeps within
abbrev pub ghosts-run_opening-J-Naming : goal.ghosts-run_opening-J-Naming
ghosts-run_opening-J-Naming g a = record { base = a.opening.given; history = a.opening.history }

abbrev pub ghosts-run_opening-J-Chapter : goal.ghosts-run_opening-J-Chapter
ghosts-run_opening-J-Chapter g a = record { setting = setting_of a.opening a.service.now.history }

abbrev pub ghosts-run_opening-J-Numbering : goal.ghosts-run_opening-J-Numbering
ghosts-run_opening-J-Numbering g a = record { register = a.calls }
