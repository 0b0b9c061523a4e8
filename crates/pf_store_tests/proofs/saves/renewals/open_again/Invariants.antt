use Rattle.pf_book.specs.Books.{setting_of}
use Rattle.pf_store_tests.specs.declared.books.TheConstants.{HISTORY_LIMIT}
use Rattle.pf_store_tests.proofs.saves.renewals.open_again.Given as goal

-- the opening is named by what it gave, its history, and its limits
abbrev pub ghosts-ask_opened-J-Naming : goal.ghosts-ask_opened-J-Naming
ghosts-ask_opened-J-Naming g a = record { base = a.opening.given; history = a.opening.history }

abbrev pub ghosts-ask_opened-J-Chapter : goal.ghosts-ask_opened-J-Chapter
ghosts-ask_opened-J-Chapter g a = record { setting = setting_of a.opening HISTORY_LIMIT }
