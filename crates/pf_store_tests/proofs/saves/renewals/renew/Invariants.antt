use Rattle.pf_book.specs.Books.{setting_of}
use Rattle.pf_store_tests.specs.declared.books.TheConstants.{HISTORY_LIMIT}
use Rattle.pf_store_tests.proofs.saves.renewals.renew.Given as goal

-- the opening is named by what it gave, its history, and its limits
abbrev pub ghosts-renew_opened-J-Naming : goal.ghosts-renew_opened-J-Naming
ghosts-renew_opened-J-Naming g a = record { base = a.opening.given; history = a.opening.history }

abbrev pub ghosts-renew_opened-J-Chapter : goal.ghosts-renew_opened-J-Chapter
ghosts-renew_opened-J-Chapter g a = record { setting = setting_of a.opening HISTORY_LIMIT }
