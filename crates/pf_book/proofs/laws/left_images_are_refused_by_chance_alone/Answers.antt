use Rattle.pf_store.proofs.Sized.{raised_roomy}
use Rattle.pf_book.proofs.Openable.{left_by_chance}
use Rattle.pf_book.proofs.laws.left_images_are_refused_by_chance_alone.Goals as goal

pub returns-clause-chance : goal.returns-clause-chance
returns-clause-chance c h doing image generation fault left is low room refused = left_by_chance image generation fault left.0 left.1 is low room refused

pub returns-clause-room : goal.returns-clause-room
returns-clause-room c size d roomy = raised_roomy size d roomy
