-- The words of each first byte are those that the grammar finds by it.
use Rattle.std.proofs.Common.{refl}
use Rattle.scenario_grammar.specs.Keyword.{keyword_of, keywords}
use Rattle.scenario_keywords.proofs.keyword.candidates.Goals as goal

pub returns-in-33 : goal.returns-in-33
unfolding keyword_of keywords
returns-in-33 c = λ rest. rw c.in-33.is refl

pub returns-in-37 : goal.returns-in-37
unfolding keyword_of keywords
returns-in-37 c = λ rest. rw c.in-37.is refl

pub returns-in-42 : goal.returns-in-42
unfolding keyword_of keywords
returns-in-42 c = λ rest. rw c.in-42.is refl

pub returns-in-43 : goal.returns-in-43
unfolding keyword_of keywords
returns-in-43 c = λ rest. rw c.in-43.is refl

pub returns-in-45 : goal.returns-in-45
unfolding keyword_of keywords
returns-in-45 c = λ rest. rw c.in-45.is refl

pub returns-in-47 : goal.returns-in-47
unfolding keyword_of keywords
returns-in-47 c = λ rest. rw c.in-47.is refl

pub returns-in-60 : goal.returns-in-60
unfolding keyword_of keywords
returns-in-60 c = λ rest. rw c.in-60.is refl

pub returns-in-61 : goal.returns-in-61
unfolding keyword_of keywords
returns-in-61 c = λ rest. rw c.in-61.is refl

pub returns-in-69 : goal.returns-in-69
unfolding keyword_of keywords
returns-in-69 c = λ rest. rw c.in-69.is refl

pub returns-in-70 : goal.returns-in-70
unfolding keyword_of keywords
returns-in-70 c = λ rest. rw c.in-70.is refl

pub returns-in-71 : goal.returns-in-71
unfolding keyword_of keywords
returns-in-71 c = λ rest. rw c.in-71.is refl

pub returns-in-73 : goal.returns-in-73
unfolding keyword_of keywords
returns-in-73 c = λ rest. rw c.in-73.is refl

pub returns-in-76 : goal.returns-in-76
unfolding keyword_of keywords
returns-in-76 c = λ rest. rw c.in-76.is refl

pub returns-in-79 : goal.returns-in-79
unfolding keyword_of keywords
returns-in-79 c = λ rest. rw c.in-79.is refl

pub returns-in-82 : goal.returns-in-82
unfolding keyword_of keywords
returns-in-82 c = λ rest. rw c.in-82.is refl

pub returns-in-83 : goal.returns-in-83
unfolding keyword_of keywords
returns-in-83 c = λ rest. rw c.in-83.is refl

pub returns-in-84 : goal.returns-in-84
unfolding keyword_of keywords
returns-in-84 c = λ rest. rw c.in-84.is refl

pub returns-in-86 : goal.returns-in-86
unfolding keyword_of keywords
returns-in-86 c = λ rest. rw c.in-86.is refl

pub returns-in-90 : goal.returns-in-90
unfolding keyword_of keywords
returns-in-90 c = λ rest. rw c.in-90.is refl

pub returns-in-97 : goal.returns-in-97
unfolding keyword_of keywords
returns-in-97 c = λ rest. rw c.in-97.is refl

pub returns-in-98 : goal.returns-in-98
unfolding keyword_of keywords
returns-in-98 c = λ rest. rw c.in-98.is refl

pub returns-in-99 : goal.returns-in-99
unfolding keyword_of keywords
returns-in-99 c = λ rest. rw c.in-99.is refl

pub returns-in-100 : goal.returns-in-100
unfolding keyword_of keywords
returns-in-100 c = λ rest. rw c.in-100.is refl

pub returns-in-101 : goal.returns-in-101
unfolding keyword_of keywords
returns-in-101 c = λ rest. rw c.in-101.is refl

pub returns-in-102 : goal.returns-in-102
unfolding keyword_of keywords
returns-in-102 c = λ rest. rw c.in-102.is refl

pub returns-in-103 : goal.returns-in-103
unfolding keyword_of keywords
returns-in-103 c = λ rest. rw c.in-103.is refl

pub returns-in-105 : goal.returns-in-105
unfolding keyword_of keywords
returns-in-105 c = λ rest. rw c.in-105.is refl

pub returns-in-106 : goal.returns-in-106
unfolding keyword_of keywords
returns-in-106 c = λ rest. rw c.in-106.is refl

pub returns-in-107 : goal.returns-in-107
unfolding keyword_of keywords
returns-in-107 c = λ rest. rw c.in-107.is refl

pub returns-in-108 : goal.returns-in-108
unfolding keyword_of keywords
returns-in-108 c = λ rest. rw c.in-108.is refl

pub returns-in-109 : goal.returns-in-109
unfolding keyword_of keywords
returns-in-109 c = λ rest. rw c.in-109.is refl

pub returns-in-110 : goal.returns-in-110
unfolding keyword_of keywords
returns-in-110 c = λ rest. rw c.in-110.is refl

pub returns-in-111 : goal.returns-in-111
unfolding keyword_of keywords
returns-in-111 c = λ rest. rw c.in-111.is refl

pub returns-in-112 : goal.returns-in-112
unfolding keyword_of keywords
returns-in-112 c = λ rest. rw c.in-112.is refl

pub returns-in-113 : goal.returns-in-113
unfolding keyword_of keywords
returns-in-113 c = λ rest. rw c.in-113.is refl

pub returns-in-114 : goal.returns-in-114
unfolding keyword_of keywords
returns-in-114 c = λ rest. rw c.in-114.is refl

pub returns-in-115 : goal.returns-in-115
unfolding keyword_of keywords
returns-in-115 c = λ rest. rw c.in-115.is refl

pub returns-in-116 : goal.returns-in-116
unfolding keyword_of keywords
returns-in-116 c = λ rest. rw c.in-116.is refl

pub returns-in-117 : goal.returns-in-117
unfolding keyword_of keywords
returns-in-117 c = λ rest. rw c.in-117.is refl

pub returns-in-118 : goal.returns-in-118
unfolding keyword_of keywords
returns-in-118 c = λ rest. rw c.in-118.is refl

pub returns-in-119 : goal.returns-in-119
unfolding keyword_of keywords
returns-in-119 c = λ rest. rw c.in-119.is refl
