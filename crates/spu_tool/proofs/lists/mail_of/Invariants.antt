use Rattle.std.proofs.Common.{◌≡◌, ◌+◌, ◌++◌, ◌≤◌, length}
use Rattle.std.specs.List.{list_all}
use Rattle.std.specs.Option.{option_map_or}
use Rattle.spu_word.specs.declared.limits.TheConstants.{MAX_MAIL}
use Rattle.spu_tool.specs.Lists.{members_of, members_left, is_word, words_of}
use Rattle.spu_tool.proofs.lists.mail_of.Given as goal

abbrev pub invariant-members : goal.invariant-members
invariant-members l =
    record {
      few : length (members_of l.fn.list) ≤ MAX_MAIL;
      read : list_all is_word (members_left l.rest) ≡ list_all is_word (members_of l.fn.list);
      written : l.words ++ words_of (members_left l.rest) ≡ words_of (members_of l.fn.list);
    }

abbrev pub decreases-members : goal.decreases-members
decreases-members l = option_map_or (λ rest. length rest.now + 1) l.rest 0
