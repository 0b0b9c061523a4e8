-- What is asked of a pf.conf, put together of what is found of each option.
use Rattle.std.proofs.Common.{◌≡◌, List, codes, map, sym, subst, Option, Result, Ok, Err}
use Rattle.std.specs.Prelude.{IfOk}
use Rattle.clap.specs.Words.{Row, Text}
use Rattle.pfd_words.specs.declared.conf.{ConfTask.ConfTask, Question.Question}
use Rattle.pfd_words.specs.{Conf.{AsksConf, AsksQuestion}, Options.{SaysText, SaysTexts, SaysFlag}}

pub asks : {E : Type 0} (met : Option (Text × List Row)) (question : Question) (asked : Result ConfTask E)
    → IfOk asked (λ task. SaysText (codes "file") met task.path.now)
    → IfOk asked (λ task. SaysFlag (codes "lenient") met task.is_lenient)
    → IfOk asked (λ task. SaysTexts (codes "interface") met (map (λ s. s.now) task.interfaces.items))
    → IfOk asked (λ task. task.question ≡ question) → AsksQuestion met question → IfOk asked (AsksConf met)
asks met question (Ok task) path lenient interfaces is what = record {
  path = path;
  lenient = lenient;
  interfaces = interfaces;
  question = subst (AsksQuestion met) (sym is) what;
}
asks met question (Err e) path lenient interfaces is what = tt
