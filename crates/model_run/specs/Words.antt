-- The words of the iterations, in order: what a chain writes, and what the author's own loop does.
use Rattle.std.specs.Prelude.{ℕ, zero, suc, List, [], ◌++◌, map}
use Rattle.model.specs.Lists.{tabulate, up_to}
use Rattle.model.specs.Values.{Trimmed}
use Rattle.model.specs.Iterations.{reads_of}
use Rattle.model_run.specs.Kernels.{terms, written}
use Rattle.model.specs.Windows.{centre_of}
use Rattle.model.specs.Steps.{falling, which_of}
use Rattle.model.specs.Planning.{trimmed_request}
use Rattle.model_run.specs.Running.{written_by}
use Rattle.model.specs.declared.Request.{Request}

module _ (t : Trimmed) (stream : ℕ → ℕ) where
  -- What the kernel writes of the stream's words at the positions that the references read in iteration j, in chain order.
  unfoldable pub words_of : ℕ → List ℕ
  words_of j = written_by t (tabulate t.count (λ k. stream (reads_of t j k)))

  -- The words of n iterations from j on, in order.
  unfoldable pub words_from : (j n : ℕ) → List ℕ
  words_from j zero = []
  words_from j (suc n) = words_of j ++ words_from (suc j) n

-- "the author's own loop": the kernel over the request's references in the request's order (document 02, request 2).
module _ (r : Request) (rows : List ℕ) (stream : ℕ → ℕ) where
  abbrev t : Trimmed
  t = trimmed_request r rows

  -- What it writes in iteration j: the words are those of the author's references 0, 1, 2, .., of which one is the centre,
  -- and terms are added in this order. "raw outputs keep chain order": the references as their offsets fall.
  unfoldable pub loop_of : ℕ → List ℕ
  loop_of j =
      let centre = centre_of t.offsets in
      written t.kernel centre (terms t.kernel centre (up_to t.count)) (map (which_of t.offsets) (falling t.offsets))
      (tabulate t.count (λ k. stream (reads_of t j k)))

  -- The words of n iterations from j on, in order.
  unfoldable pub loop_from : (j n : ℕ) → List ℕ
  loop_from j zero = []
  loop_from j (suc n) = loop_of j ++ loop_from (suc j) n
