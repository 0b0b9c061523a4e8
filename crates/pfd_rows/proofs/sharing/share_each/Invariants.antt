use Rattle.pf_book.specs.Books.{setting_of}
use Rattle.pfd_rows.proofs.sharing.share_each.Given as goal

-- the opening is named by what it gave, its history, and its limits
abbrev pub ghosts-share-J-Naming : goal.ghosts-share-J-Naming
ghosts-share-J-Naming g a = record { base = a.opening.given; history = a.opening.history }

abbrev pub ghosts-share-J-Chapter : goal.ghosts-share-J-Chapter
ghosts-share-J-Chapter g a = record { setting = setting_of a.opening a.history }

abbrev pub ghosts-share-J-Numbering : goal.ghosts-share-J-Numbering
ghosts-share-J-Numbering g a = record { register = a.calls }
