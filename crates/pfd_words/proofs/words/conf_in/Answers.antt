use Rattle.pfd_words.proofs.words.conf_in.Goals as goal

pub returns-in_default-clause-asked : goal.returns-in_default-clause-asked
returns-in_default-clause-asked c = c.session_in.ensures.asked c.args.name.now
