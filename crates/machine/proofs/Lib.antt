mod OnLists
