use Rattle.std.proofs.Common.{refl, arith}
use Rattle.first_pass_html.proofs.LongestNames.{group_longest, other_longest}
use Rattle.std.proofs.lemmas.Bool.Decides.{nat_tests}
use Rattle.first_pass_html.proofs.names.block_name_len.Goals as goal

pub returns-in-97 : goal.returns-in-97
returns-in-97 c = group_longest 97 _ _ _ _ c.in-len1-up.len_at_least c.to_ascii_lowercase.ensures.value c.in-97.is c.first_name_len.ensures refl

pub returns-in-98 : goal.returns-in-98
returns-in-98 c = group_longest 98 _ _ _ _ c.in-len1-up.len_at_least c.to_ascii_lowercase.ensures.value c.in-98.is c.first_name_len-in-98.ensures refl

pub returns-in-99 : goal.returns-in-99
returns-in-99 c = group_longest 99 _ _ _ _ c.in-len1-up.len_at_least c.to_ascii_lowercase.ensures.value c.in-99.is c.first_name_len-in-99.ensures refl

pub returns-in-100 : goal.returns-in-100
returns-in-100 c = group_longest 100 _ _ _ _ c.in-len1-up.len_at_least c.to_ascii_lowercase.ensures.value c.in-100.is c.first_name_len-in-100.ensures refl

pub returns-in-102 : goal.returns-in-102
returns-in-102 c = group_longest 102 _ _ _ _ c.in-len1-up.len_at_least c.to_ascii_lowercase.ensures.value c.in-102.is c.first_name_len-in-102.ensures refl

pub returns-in-104 : goal.returns-in-104
returns-in-104 c = group_longest 104 _ _ _ _ c.in-len1-up.len_at_least c.to_ascii_lowercase.ensures.value c.in-104.is c.first_name_len-in-104.ensures refl

pub returns-in-105 : goal.returns-in-105
returns-in-105 c = group_longest 105 _ _ _ _ c.in-len1-up.len_at_least c.to_ascii_lowercase.ensures.value c.in-105.is c.first_name_len-in-105.ensures refl

pub returns-in-108 : goal.returns-in-108
returns-in-108 c = group_longest 108 _ _ _ _ c.in-len1-up.len_at_least c.to_ascii_lowercase.ensures.value c.in-108.is c.first_name_len-in-108.ensures refl

pub returns-in-109 : goal.returns-in-109
returns-in-109 c = group_longest 109 _ _ _ _ c.in-len1-up.len_at_least c.to_ascii_lowercase.ensures.value c.in-109.is c.first_name_len-in-109.ensures refl

pub returns-in-110 : goal.returns-in-110
returns-in-110 c = group_longest 110 _ _ _ _ c.in-len1-up.len_at_least c.to_ascii_lowercase.ensures.value c.in-110.is c.first_name_len-in-110.ensures refl

pub returns-in-111 : goal.returns-in-111
returns-in-111 c = group_longest 111 _ _ _ _ c.in-len1-up.len_at_least c.to_ascii_lowercase.ensures.value c.in-111.is c.first_name_len-in-111.ensures refl

pub returns-in-112 : goal.returns-in-112
returns-in-112 c = group_longest 112 _ _ _ _ c.in-len1-up.len_at_least c.to_ascii_lowercase.ensures.value c.in-112.is c.first_name_len-in-112.ensures refl

pub returns-in-115 : goal.returns-in-115
returns-in-115 c = group_longest 115 _ _ _ _ c.in-len1-up.len_at_least c.to_ascii_lowercase.ensures.value c.in-115.is c.first_name_len-in-115.ensures refl

pub returns-in-116 : goal.returns-in-116
returns-in-116 c = group_longest 116 _ _ _ _ c.in-len1-up.len_at_least c.to_ascii_lowercase.ensures.value c.in-116.is c.first_name_len-in-116.ensures refl

pub returns-in-117 : goal.returns-in-117
returns-in-117 c = group_longest 117 _ _ _ _ c.in-len1-up.len_at_least c.to_ascii_lowercase.ensures.value c.in-117.is c.first_name_len-in-117.ensures refl

pub returns-in_default-to_ascii_lowercase : goal.returns-in_default-to_ascii_lowercase
returns-in_default-to_ascii_lowercase c = grind (arith, other_longest, nat_tests)
