-- What this crate's functions answer of a grid and a window that neither 3 nor 4 turns back: the model's definitions.
use mathlib.Core.Bool.{true, false}
use mathlib.Core.Path.{◌≡◌, refl, sym, ◌∙◌, ap}
use Rattle.model.specs.Values.{sizes_of, offsets_of}
use Rattle.model.specs.Judging.{bad_grid, bad_count, repeats, judge_rectangle}
use Rattle.model.specs.Windows.{centre_of}
use Rattle.model.specs.declared.Bounds.{Bounds}
use Rattle.model.specs.declared.Grid.{Grid}
use Rattle.model.specs.declared.Window.{Window}
use Rattle.std.specs.Prelude.{Ok, Err}
use Rattle.model.specs.Answers.{Verdict, verdict_of}
use Rattle.windows.specs.Windows.{held, repeats_in, centre_in}
use Rattle.shape.specs.Shapes.{survey_of}
use Rattle.shape.specs.declared.Survey.{Survey}
use Rattle.windows.proofs.OffsetLaws.{is_held}
use Rattle.geometry.proofs.GridLaws.{few_dimensions, few_references}

module _ (g : Grid) (w : Window) (a : bad_grid g.dims (sizes_of g) ≡ false) (b : bad_count w.count ≡ false) where
  arrays_hold : held g.dims w ≡ true
  arrays_hold = is_held g.dims w (few_dimensions g a) (few_references w b)

  pub repeats_is : repeats_in g.dims w ≡ repeats (offsets_of g.dims w)
  unfolding repeats_in
  repeats_is = rw arrays_hold

  pub centre_is : centre_in g.dims w ≡ centre_of (offsets_of g.dims w)
  unfolding centre_in
  centre_is = rw arrays_hold

-- What a survey answers is the first of 3 to 6 and 15.
pub survey_verdict : (g : Grid) (w : Window) (x : Bounds) → verdict_of (survey_of g w x) ≡ judge_rectangle g w x
unfolding survey_of
survey_verdict g w x = go (judge_rectangle g w x) refl
  where
    go : (v : Verdict) → judge_rectangle g w x ≡ v → verdict_of (survey_of g w x) ≡ judge_rectangle g w x
    go (Ok _) e = rw e
    go (Err r) e = rw e

-- So a survey that is answered is of a grid, a window and a box that these let pass.
pub survey_passed : (g : Grid) (w : Window) (x : Bounds) (s : Survey) → survey_of g w x ≡ Ok s → judge_rectangle g w x ≡ Ok tt
survey_passed g w x s e = sym (survey_verdict g w x) ∙ ap verdict_of e
