use Rattle.std.proofs.Common.{refl}
use Rattle.kk_machine.specs.declared.log.Log.{Log}
use Rattle.kk_machine.specs.Steps.{sight_after}
use Rattle.kk_machine.proofs.LogLists.{spaces-set}
use Rattle.kk_machine.proofs.spaces.Spaces.tell.Goals as goal

pub returns : goal.returns
returns c =
    spaces-set _ _ _ _ c.index_mut.result.now _ (λ (l : Log). sight_after l c.args.word) _ refl c.requires.generation c.self.view_is
    c.index_mut.ensures.value c.tell.ensures
